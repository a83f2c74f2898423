use lib.Ieee.{of_bits, in_float}
use Prim.Native.Nat.{◌-◌}
use native.Mathlib.Omega.{arith}
use mathlib.Core.Logic.{⊎_elim}
use mathlib.Core.Path.{sym, subst}
use lib.Dec.{T}
use borrow.Author.Tests.{le-leb}
use Rattle.elements.specs.Table.{kind_is}
use Rattle.tear.proofs.WayLaws.{Weighing, weighing_start, weighing_in, weighing_out, weighing_done}
use borrow.Author.Rules.{rules}
use Rattle.tear.proofs.ways.mean_load.Given as goal

abbrev pub invariant-loop-i : goal.invariant-loop-i
invariant-loop-i l = Weighing (kind_is l.kind) l.n l.numbers l.sides l.loads l.lengths l.s l.far l.i

abbrev pub decreases-loop-i : goal.decreases-loop-i
decreases-loop-i l = l.n - l.i
