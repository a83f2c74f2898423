-- `bench::tearing::cut` meets its contract: the answer to its job. Assumes nothing.
use Rattle.mesh.specs.Given.{given, mesh_of, sizes_fit_of}
use Rattle.mesh_calls.proofs.Jobs.{cut_is}
use Rattle.bench.proofs.Coming.{answered_as}
use Rattle.bench.proofs.tearing.cut.Goals as goal

pub shape_of-points : goal.shape_of-points
shape_of-points c = c.answer_job.auto.points

pub shape_of-roots : goal.shape_of-roots
shape_of-roots c = c.answer_job.auto.roots

pub shape_of-corners : goal.shape_of-corners
shape_of-corners c = c.answer_job.auto.corners

pub shape_of-volumes : goal.shape_of-volumes
shape_of-volumes c = c.answer_job.auto.volumes

pub shape_of-ends : goal.shape_of-ends
shape_of-ends c = c.answer_job.auto.ends

pub shape_of-lengths : goal.shape_of-lengths
shape_of-lengths c = c.answer_job.auto.lengths

pub shape_of-outline : goal.shape_of-outline
shape_of-outline c = c.answer_job.auto.outline

pub shape_of-log : goal.shape_of-log
shape_of-log c = c.answer_job.auto.log

pub returns : goal.returns
returns c =
    let A = c.args in
    let G = given A.in_points.now A.in_roots.now A.in_corners.now A.in_volumes.now A.in_ends.now A.in_lengths.now A.in_outline.now in
    answered_as (cut_is A.edition A.b0 A.b1 A.f _ (sizes_fit_of G) (mesh_of G) _) c.answer_job.ensures
