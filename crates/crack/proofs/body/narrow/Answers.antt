-- `crack::body::narrow` meets its contract: the loop is `Copying` of columns' proofs/Sweep.antt. Assumes nothing.
use native.Mathlib.Omega.{arith}
use Rattle.columns.proofs.Sweep.{copy_start, copy_more, copy_done}
use Rattle.crack.proofs.body.narrow.Goals as goal

pub loop-i-init : goal.loop-i-init
loop-i-init c = copy_start _ _

pub loop-i-preserved : goal.loop-i-preserved
loop-i-preserved c = copy_more _ _ _ _ 0 c.loop-i.invariant c.loop-i-test.true c.requires.places

pub shape_of-dst : goal.shape_of-dst
shape_of-dst c = c.loop-i.invariant.long

pub returns : goal.returns
returns c = copy_done _ _ _ _ c.loop-i.invariant c.loop-i-test.false
