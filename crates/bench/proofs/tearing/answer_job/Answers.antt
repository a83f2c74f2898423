-- `bench::tearing::answer_job` meets its contract: what the job came to, finished. Assumes nothing.
use mathlib.Core.Path.{◌∙◌}
use Rattle.mesh.specs.Given.{given, mesh_of, sizes_fit_of, as_rooms}
use Rattle.mesh.specs.Filled.{lent}
use Rattle.mesh.specs.declared.Rooms.{Rooms}
use Rattle.mesh.proofs.Agree.{lent_path}
use Rattle.call_frame.proofs.Begun.{roomed}
use Rattle.call_frame.proofs.Calls.{came_fits, answered}
use Rattle.mesh_calls.specs.Jobs.{job_call}
use Rattle.bench.proofs.tearing.answer_job.Goals as goal

pub run-ran-requires : goal.run-ran-requires
run-ran-requires c = let A = c.args in roomed _ (lent A.points.now A.roots.now A.corners.now A.volumes.now A.ends.now A.lengths.now A.outline.now A.log.now) c.rooms_for-room.ensures

pub finish-requires : goal.finish-requires
finish-requires c =
    let A = c.args in
    let G = given A.in_points.now A.in_roots.now A.in_corners.now A.in_volumes.now A.in_ends.now A.in_lengths.now A.in_outline.now in
    let W = c.run-ran in
    came_fits (λ (R : Rooms). job_call A.job A.list.now (sizes_fit_of G) (mesh_of G) (as_rooms R)) (lent A.points.now A.roots.now A.corners.now A.volumes.now A.ends.now A.lengths.now A.outline.now A.log.now) c.rooms_for-room.ensures W.ensures _
    (lent_path _ _ W.auto.points W.auto.roots W.auto.corners W.auto.volumes W.auto.ends W.auto.lengths W.auto.outline W.auto.log)

pub shape_of-points : goal.shape_of-points
shape_of-points c = c.finish.auto.points ∙ c.run-ran.auto.points

pub shape_of-roots : goal.shape_of-roots
shape_of-roots c = c.finish.auto.roots ∙ c.run-ran.auto.roots

pub shape_of-corners : goal.shape_of-corners
shape_of-corners c = c.finish.auto.corners ∙ c.run-ran.auto.corners

pub shape_of-volumes : goal.shape_of-volumes
shape_of-volumes c = c.finish.auto.volumes ∙ c.run-ran.auto.volumes

pub shape_of-ends : goal.shape_of-ends
shape_of-ends c = c.finish.auto.ends ∙ c.run-ran.auto.ends

pub shape_of-lengths : goal.shape_of-lengths
shape_of-lengths c = c.finish.auto.lengths ∙ c.run-ran.auto.lengths

pub shape_of-outline : goal.shape_of-outline
shape_of-outline c = c.finish.auto.outline ∙ c.run-ran.auto.outline

pub shape_of-log : goal.shape_of-log
shape_of-log c = c.finish.auto.log ∙ c.run-ran.auto.log

pub returns : goal.returns
returns c =
    let A = c.args in
    let G = given A.in_points.now A.in_roots.now A.in_corners.now A.in_volumes.now A.in_ends.now A.in_lengths.now A.in_outline.now in
    let W = c.run-ran in
    answered (λ (R : Rooms). job_call A.job A.list.now (sizes_fit_of G) (mesh_of G) (as_rooms R)) (lent A.points.now A.roots.now A.corners.now A.volumes.now A.ends.now A.lengths.now A.outline.now A.log.now) c.rooms_for-room.ensures W.ensures _ _ _ _ _ _ _ _ _ _
    (lent_path _ _ W.auto.points W.auto.roots W.auto.corners W.auto.volumes W.auto.ends W.auto.lengths W.auto.outline W.auto.log) c.finish.ensures
