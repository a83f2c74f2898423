-- `marks::sides::kept_sign` meets its contract. The invariant: v and the rows so far are on the line. Assumes nothing.
use Rattle.marks.proofs.SignLaws.{triangle_in, AllOn, on_none, on_more, sign_own, sign_first, sign_none}
use Rattle.marks.specs.Marking.{blade_by}
use Rattle.marks.specs.declared.Rule.TheVariants.{Signs}
use Prim.Native.Nat.{◌≤◌, ◌-◌, ◌*◌, ◌+◌}
use mathlib.Core.Path.{◌≡◌, sym, ◌∙◌}
use borrow.Author.Rules.{rules}
use borrow.Author.Tests.{not-true, not-false}
use native.Mathlib.Omega.{arith}
use mathlib.Core.Path.{ap}
use mathlib.Core.Bool.{not}
use Rattle.marks.proofs.sides.kept_sign.Given as goal

-- `marks::sides::kept_sign` meets its contract. The invariant: v and the rows so far are on the line. Assumes nothing.
abbrev pub invariant-loop-i : goal.invariant-loop-i
invariant-loop-i l = (l.i ≤ l.n) × (l.at ≡ l.i * 3) × AllOn (blade_by Signs l.b0 l.b1) l.points l.verts l.i

abbrev pub decreases-loop-i : goal.decreases-loop-i
decreases-loop-i l = l.n - l.i
