-- `perform::calls::begin` meets its contract: the checks, and the copy. Assumes nothing.
use Rattle.mesh.specs.Given.{given}
use Rattle.call_frame.proofs.Begun.{begun_by}
use Rattle.perform.proofs.Performed.{job_begins}
use Rattle.perform.proofs.calls.begin.Goals as goal

pub begin-requires : goal.begin-requires
begin-requires c =
    let A = c.args in
    let G = given A.in_points.now A.in_roots.now A.in_corners.now A.in_volumes.now A.in_ends.now A.in_lengths.now A.in_outline.now in
    job_begins A.job A.list.now G A.room _ _ c.judge-fault.ensures c.requires

pub shape_of-points : goal.shape_of-points
shape_of-points c = c.begin.auto.points

pub shape_of-roots : goal.shape_of-roots
shape_of-roots c = c.begin.auto.roots

pub shape_of-corners : goal.shape_of-corners
shape_of-corners c = c.begin.auto.corners

pub shape_of-volumes : goal.shape_of-volumes
shape_of-volumes c = c.begin.auto.volumes

pub shape_of-ends : goal.shape_of-ends
shape_of-ends c = c.begin.auto.ends

pub shape_of-lengths : goal.shape_of-lengths
shape_of-lengths c = c.begin.auto.lengths

pub shape_of-outline : goal.shape_of-outline
shape_of-outline c = c.begin.auto.outline

pub returns : goal.returns
returns c = begun_by c.begin.ensures c.judge-fault.ensures
