-- `split::settle::note_copies` meets its contract: the loop is `Copying` of proofs/NoteLaws.antt. Assumes nothing.
use Rattle.split.proofs.NoteLaws.{Copying, copying_start, copying_step, copying_done}
use native.Mathlib.Omega.{arith}
use Prim.Native.Nat.{◌-◌}
use Rattle.split.proofs.settle.note_copies.Goals as goal

pub loop-i-init : goal.loop-i-init
loop-i-init c = copying_start _ _ _ _ _

pub loop-i-preserved : goal.loop-i-preserved
loop-i-preserved c = copying_step _ _ _ _ _ c.loop-i.invariant _ c.loop-i-test.true c.note.auto.log c.note.ensures

pub shape_of-log : goal.shape_of-log
shape_of-log c = c.loop-i.invariant.long

pub returns : goal.returns
returns c = copying_done _ _ _ _ _ c.loop-i.invariant c.loop-i-test.false
