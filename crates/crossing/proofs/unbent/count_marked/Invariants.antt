-- `crossing::unbent::count_marked` meets its contract: the loop is `CountTo` of proofs/UnbentLaws.antt. Assumes nothing.
use Rattle.crossing.proofs.UnbentLaws.{CountTo, count_start, count_few, count_took, count_skipped, count_done}
use mathlib.Core.Logic.{⊎_elim}
use Prim.Native.Nat.{◌-◌}
use native.Mathlib.Omega.{arith}
use Rattle.crossing.proofs.unbent.count_marked.Given as goal

-- `crossing::unbent::count_marked` meets its contract: the loop is `CountTo` of proofs/UnbentLaws.antt. Assumes nothing.
abbrev pub invariant-loop-i : goal.invariant-loop-i
invariant-loop-i l = CountTo l.marks l.n l.i l.count

abbrev pub decreases-loop-i : goal.decreases-loop-i
decreases-loop-i l = l.n - l.i
