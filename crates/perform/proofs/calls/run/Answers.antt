-- `perform::calls::run` meets its contract: the refusal, or what the work came to. Assumes nothing.
use Rattle.std.proofs.lemmas.Result.{err_from_is_err_and}
use mathlib.Core.Path.{refl, sym, ◌∙◌}
use native.Mathlib.Omega.{arith}
use Rattle.mesh.specs.Given.{given}
use Rattle.work.proofs.Runs.{works_known}
use Rattle.edge_drops.proofs.PartedLaws.{listing_done, works_closed}
use Rattle.mesh.proofs.Agree.{lent_path}
use Rattle.call_frame.proofs.Begun.{rooms_lent, roomed_still}
use Rattle.perform.proofs.Worked.{works_any}
use Rattle.perform.proofs.Performed.{job_refused, job_asked, job_came}
use Rattle.perform.proofs.calls.run.Goals as goal

-- `perform::calls::run` meets its contract: the refusal, or what the work came to. Assumes nothing.
pub begin-requires : goal.begin-requires
begin-requires c = let A = c.args in rooms_lent A.points.now A.roots.now A.corners.now A.volumes.now A.ends.now A.lengths.now A.outline.now A.log.now c.requires

pub returns-in_err-begin : goal.returns-in_err-begin
returns-in_err-begin c = let A = c.args in
    let p = err_from_is_err_and c.from_residual.result c.from_residual.ensures.1 in
    rw (p.1, p.2) (job_refused A.job A.list.now (given A.in_points.now A.in_roots.now A.in_corners.now A.in_volumes.now A.in_ends.now A.in_lengths.now A.in_outline.now) c.in_err-begin.ensures _ refl _)

pub work-requires : goal.work-requires
work-requires c = let A = c.args in let B = c.begin in
    let J = job_asked A.job A.list.now (given A.in_points.now A.in_roots.now A.in_corners.now A.in_volumes.now A.in_ends.now A.in_lengths.now A.in_outline.now) _ _ _ _ _ _ _ A.log.now c.in_ok-begin.ensures refl (roomed_still c.requires (lent_path _ _ B.auto.points B.auto.roots B.auto.corners B.auto.volumes B.auto.ends B.auto.lengths B.auto.outline refl)) in
    (J.0, J.1, J.2, omega arith)

pub shape_of-points-in_err-q : goal.shape_of-points-in_err-q
shape_of-points-in_err-q c = c.work.auto.points ∙ c.begin.auto.points

pub shape_of-roots-in_err-q : goal.shape_of-roots-in_err-q
shape_of-roots-in_err-q c = c.work.auto.roots ∙ c.begin.auto.roots

pub shape_of-corners-in_err-q : goal.shape_of-corners-in_err-q
shape_of-corners-in_err-q c = c.work.auto.corners ∙ c.begin.auto.corners

pub shape_of-volumes-in_err-q : goal.shape_of-volumes-in_err-q
shape_of-volumes-in_err-q c = c.begin.auto.volumes

pub shape_of-ends-in_err-q : goal.shape_of-ends-in_err-q
shape_of-ends-in_err-q c = c.work.auto.ends ∙ c.begin.auto.ends

pub shape_of-lengths-in_err-q : goal.shape_of-lengths-in_err-q
shape_of-lengths-in_err-q c = c.work.auto.lengths ∙ c.begin.auto.lengths

pub shape_of-outline-in_err-q : goal.shape_of-outline-in_err-q
shape_of-outline-in_err-q c = c.work.auto.outline ∙ c.begin.auto.outline

pub shape_of-log-in_err-q : goal.shape_of-log-in_err-q
shape_of-log-in_err-q c = c.work.auto.log

pub returns-in_err-q : goal.returns-in_err-q
returns-in_err-q c = let A = c.args in
    let p = err_from_is_err_and c.from_residual-in_err-q.result c.from_residual-in_err-q.ensures.1 in rw (p.1, p.2, sym c.in_err-q.was) (job_came A.job A.list.now (given A.in_points.now A.in_roots.now A.in_corners.now A.in_volumes.now A.in_ends.now A.in_lengths.now A.in_outline.now) _ _ _ _ _ _ _ _ _ _ _ _ _ _ _ _ _ c.in_ok-begin.ensures refl (works_any _ _ c.in_err-q.was c.work.ensures.0))

pub close_rows-requires : goal.close_rows-requires
close_rows-requires c = listing_done _ _ _ _ _ c.in_ok-q.was c.work.ensures.1

pub shape_of-points : goal.shape_of-points
shape_of-points c = c.work.auto.points ∙ c.begin.auto.points

pub shape_of-roots : goal.shape_of-roots
shape_of-roots c = c.work.auto.roots ∙ c.begin.auto.roots

pub shape_of-corners : goal.shape_of-corners
shape_of-corners c = c.work.auto.corners ∙ c.begin.auto.corners

pub shape_of-volumes : goal.shape_of-volumes
shape_of-volumes c = c.begin.auto.volumes

pub shape_of-ends : goal.shape_of-ends
shape_of-ends c = c.close_rows.auto.ends ∙ c.work.auto.ends ∙ c.begin.auto.ends

pub shape_of-lengths : goal.shape_of-lengths
shape_of-lengths c = c.close_rows.auto.lengths ∙ c.work.auto.lengths ∙ c.begin.auto.lengths

pub shape_of-outline : goal.shape_of-outline
shape_of-outline c = c.work.auto.outline ∙ c.begin.auto.outline

pub shape_of-log : goal.shape_of-log
shape_of-log c = c.work.auto.log

pub returns : goal.returns
returns c = let A = c.args in
    job_came A.job A.list.now (given A.in_points.now A.in_roots.now A.in_corners.now A.in_volumes.now A.in_ends.now A.in_lengths.now A.in_outline.now) _ _ _ _ _ _ _ _ _ _ _ _ _ _ _ _ _ c.in_ok-begin.ensures refl (works_closed _ _ _ _ _ _ _ _ _ _ _ _ c.close_rows.ensures (works_known _ _ c.in_ok-q.was c.work.ensures.0))
