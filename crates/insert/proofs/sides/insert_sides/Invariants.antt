use borrow.Author.Rules.{rules}
use Prim.Native.Nat.{◌-◌}
use native.Mathlib.Omega.{arith}
use mathlib.Core.Path.{◌∙◌}
use Rattle.insert.proofs.SideLaws.{SidePassing, side_start, side_step, side_lacks, side_done}
use Rattle.insert.proofs.sides.insert_sides.Given as goal

abbrev pub invariant-loop-i : goal.invariant-loop-i
invariant-loop-i l = SidePassing l.a l.b l.p l.q l.n l.room l.initial.outline l.outline l.rows l.i

abbrev pub decreases-loop-i : goal.decreases-loop-i
decreases-loop-i l = l.n - l.i
