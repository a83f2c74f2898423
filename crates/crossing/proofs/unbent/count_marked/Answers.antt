-- `crossing::unbent::count_marked` meets its contract: the loop is `CountTo` of proofs/UnbentLaws.antt. Assumes nothing.
use Rattle.crossing.proofs.UnbentLaws.{CountTo, count_start, count_few, count_took, count_skipped, count_done}
use mathlib.Core.Logic.{⊎_elim}
use Prim.Native.Nat.{◌-◌}
use native.Mathlib.Omega.{arith}
use Rattle.crossing.proofs.unbent.count_marked.Goals as goal
use Rattle.crossing.proofs.unbent.count_marked.Goals.{else-marks-i-eq1, then-marks-i-eq1}

pub loop-i-init : goal.loop-i-init
loop-i-init c = count_start _ _

pub loop-i-preserved : goal.loop-i-preserved
loop-i-preserved c = elim c.if-marks-i-eq1.branch [
  | then-marks-i-eq1 w ↦ count_took c.loop-i.invariant c.loop-i-test.true w.if-marks-i-eq1.true w.count-is
  | else-marks-i-eq1 w ↦ count_skipped c.loop-i.invariant c.loop-i-test.true w.if-marks-i-eq1.false w.count-is
]

pub returns : goal.returns
returns c = count_done c.loop-i.invariant c.loop-i-test.false

pub overflow_add-count : goal.overflow_add-count
overflow_add-count c = omega (arith, count_few c.loop-i.invariant, c.loop-i-test.true)
