-- `mesh::rows::rewire` meets its contract: the loop over the fan is `Rewiring` of proofs/Fan.antt. Assumes nothing.
use Rattle.mesh.proofs.Fan.{rewiring_start, rewiring_more, rewiring_done}
use Rattle.mesh.proofs.rows.rewire.Goals as goal

pub loop-i-init : goal.loop-i-init
loop-i-init c = rewiring_start _ _ _ _ _

pub copy_for-w-requires : goal.copy_for-w-requires
copy_for-w-requires c = let pre = c.requires in (pre.some, pre.small _ c.loop-i-test.true)

pub retarget-requires : goal.retarget-requires
retarget-requires c = rw c.loop-i.invariant.long (c.requires.within _ c.loop-i-test.true)

pub loop-i-preserved : goal.loop-i-preserved
loop-i-preserved c =
    let pre = c.requires in
    let in_fan = c.loop-i-test.true in
    rewiring_more _ _ _ _ _ pre.paired in_fan (λ j h. pre.distinct j _ h in_fan) _ _ _ c.loop-i.invariant (rw c.copy_for-w.ensures at c.retarget.ensures) c.retarget.auto.corners

pub shape_of-corners : goal.shape_of-corners
shape_of-corners c = c.loop-i.invariant.long

pub returns : goal.returns
returns c = rewiring_done _ _ _ _ _ _ _ c.loop-i.invariant c.loop-i-test.false c.requires.paired
