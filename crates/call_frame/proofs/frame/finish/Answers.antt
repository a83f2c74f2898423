-- `call_frame::frame::finish` meets its contract: all 0 after a refusal, else 0 behind the rows. Assumes nothing.
use Rattle.mesh.proofs.Agree.{none_fits}
use Rattle.call_frame.proofs.Ended.{ended_fits, finished_refused, finished_done}
use Rattle.call_frame.proofs.frame.finish.Goals as goal

pub finish_all-requires : goal.finish_all-requires
finish_all-requires g c = none_fits _

pub changed-any-requires : goal.changed-any-requires
changed-any-requires g c = (ended_fits _ _ _ c.requires c.in-Ok.is).log

pub finish_all-requires-in-Ok : goal.finish_all-requires-in-Ok
finish_all-requires-in-Ok g c = ended_fits _ _ _ c.requires c.in-Ok.is

pub shape_of-points-in-Err : goal.shape_of-points-in-Err
shape_of-points-in-Err g c = c.finish_all.auto.points

pub shape_of-roots-in-Err : goal.shape_of-roots-in-Err
shape_of-roots-in-Err g c = c.finish_all.auto.roots

pub shape_of-corners-in-Err : goal.shape_of-corners-in-Err
shape_of-corners-in-Err g c = c.finish_all.auto.corners

pub shape_of-volumes-in-Err : goal.shape_of-volumes-in-Err
shape_of-volumes-in-Err g c = c.finish_all.auto.volumes

pub shape_of-ends-in-Err : goal.shape_of-ends-in-Err
shape_of-ends-in-Err g c = c.finish_all.auto.ends

pub shape_of-lengths-in-Err : goal.shape_of-lengths-in-Err
shape_of-lengths-in-Err g c = c.finish_all.auto.lengths

pub shape_of-outline-in-Err : goal.shape_of-outline-in-Err
shape_of-outline-in-Err g c = c.finish_all.auto.outline

pub shape_of-log-in-Err : goal.shape_of-log-in-Err
shape_of-log-in-Err g c = c.finish_all.auto.log

pub returns-in-Err : goal.returns-in-Err
returns-in-Err g c =
    let A = c.args in
    finished_refused A.points.now A.roots.now A.corners.now A.volumes.now A.ends.now A.lengths.now A.outline.now A.log.now _ _ _ _ _ _ _ _ _ _ _ c.in-Err.is c.finish_all.ensures

pub shape_of-points-in-Ok : goal.shape_of-points-in-Ok
shape_of-points-in-Ok g c = c.finish_all-in-Ok.auto.points

pub shape_of-roots-in-Ok : goal.shape_of-roots-in-Ok
shape_of-roots-in-Ok g c = c.finish_all-in-Ok.auto.roots

pub shape_of-corners-in-Ok : goal.shape_of-corners-in-Ok
shape_of-corners-in-Ok g c = c.finish_all-in-Ok.auto.corners

pub shape_of-volumes-in-Ok : goal.shape_of-volumes-in-Ok
shape_of-volumes-in-Ok g c = c.finish_all-in-Ok.auto.volumes

pub shape_of-ends-in-Ok : goal.shape_of-ends-in-Ok
shape_of-ends-in-Ok g c = c.finish_all-in-Ok.auto.ends

pub shape_of-lengths-in-Ok : goal.shape_of-lengths-in-Ok
shape_of-lengths-in-Ok g c = c.finish_all-in-Ok.auto.lengths

pub shape_of-outline-in-Ok : goal.shape_of-outline-in-Ok
shape_of-outline-in-Ok g c = c.finish_all-in-Ok.auto.outline

pub shape_of-log-in-Ok : goal.shape_of-log-in-Ok
shape_of-log-in-Ok g c = c.finish_all-in-Ok.auto.log

pub returns-in-Ok : goal.returns-in-Ok
returns-in-Ok g c =
    let A = c.args in
    finished_done A.points.now A.roots.now A.corners.now A.volumes.now A.ends.now A.lengths.now A.outline.now A.log.now _ _ _ _ _ _ _ _ _ _ _ _ c.in-Ok.is c.changed-any.ensures c.finish_all-in-Ok.ensures
