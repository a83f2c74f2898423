-- `crack::body::crack_linked` meets its contract: the end comes behind the torn edges, on the tables that they left. Assumes nothing.
use Rattle.std.proofs.lemmas.Result.{err_from_is_err_and}
use mathlib.Core.Path.{refl, ◌∙◌, sym}
use Rattle.work.proofs.Runs.{works_known}
use Rattle.elements.specs.Table.{kind_is}
use Rattle.mesh.specs.Log.{world_at}
use Rattle.mesh.proofs.Agree.{lent_path}
use Rattle.split.proofs.LinkLaws.{linked_done}
use Rattle.crack.proofs.BodyLaws.{left_ready, left_entries, left_words, turns_indexed, body_refused, body_done}
use Rattle.crack.proofs.body.crack_linked.Goals as goal

-- `crack::body::crack_linked` meets its contract: the end comes behind the torn edges, on the tables that they left. Assumes nothing.
pub crack_torn-requires : goal.crack_torn-requires
crack_torn-requires c = c.requires

pub shape_of-points-in_err-counts : goal.shape_of-points-in_err-counts
shape_of-points-in_err-counts c = c.crack_torn.auto.points

pub shape_of-roots-in_err-counts : goal.shape_of-roots-in_err-counts
shape_of-roots-in_err-counts c = c.crack_torn.auto.roots

pub shape_of-corners-in_err-counts : goal.shape_of-corners-in_err-counts
shape_of-corners-in_err-counts c = c.crack_torn.auto.corners

pub shape_of-ends-in_err-counts : goal.shape_of-ends-in_err-counts
shape_of-ends-in_err-counts c = c.crack_torn.auto.ends

pub shape_of-lengths-in_err-counts : goal.shape_of-lengths-in_err-counts
shape_of-lengths-in_err-counts c = c.crack_torn.auto.lengths

pub shape_of-outline-in_err-counts : goal.shape_of-outline-in_err-counts
shape_of-outline-in_err-counts c = c.crack_torn.auto.outline

pub shape_of-log-in_err-counts : goal.shape_of-log-in_err-counts
shape_of-log-in_err-counts c = c.crack_torn.auto.log

pub shape_of-links-in_err-counts : goal.shape_of-links-in_err-counts
shape_of-links-in_err-counts c = c.crack_torn.auto.links

pub returns-in_err-counts : goal.returns-in_err-counts
returns-in_err-counts c = let A = c.args in
    let p = err_from_is_err_and c.from_residual.result c.from_residual.ensures.1 in rw (p.1, p.2, sym c.in_err-counts.was) (body_refused (kind_is A.kind) A.minimum A.torn.now _ c.crack_torn.ensures.0 _ c.in_err-counts.was)

pub finish-requires : goal.finish-requires
unfolding world_at
finish-requires c = let A = c.args in let P = c.requires in
    let F = works_known _ _ c.in_ok-counts.was c.crack_torn.ensures.0 in (
      left_ready F P.1.entries P.1.words (turns_indexed (kind_is A.kind) A.minimum A.torn.now) A.k _ _ P.0 (lent_path _ _ c.crack_torn.auto.points c.crack_torn.auto.roots c.crack_torn.auto.corners refl c.crack_torn.auto.ends c.crack_torn.auto.lengths c.crack_torn.auto.outline c.crack_torn.auto.log),
      record { entries = left_entries F P.1.entries P.1.words; words = left_words F P.1.entries P.1.words },
      linked_done _ _ c.in_ok-counts.was c.crack_torn.ensures.1,
    )

pub shape_of-points : goal.shape_of-points
shape_of-points c = c.finish.auto.points ∙ c.crack_torn.auto.points

pub shape_of-roots : goal.shape_of-roots
shape_of-roots c = c.finish.auto.roots ∙ c.crack_torn.auto.roots

pub shape_of-corners : goal.shape_of-corners
shape_of-corners c = c.finish.auto.corners ∙ c.crack_torn.auto.corners

pub shape_of-ends : goal.shape_of-ends
shape_of-ends c = c.finish.auto.ends ∙ c.crack_torn.auto.ends

pub shape_of-lengths : goal.shape_of-lengths
shape_of-lengths c = c.finish.auto.lengths ∙ c.crack_torn.auto.lengths

pub shape_of-outline : goal.shape_of-outline
shape_of-outline c = c.finish.auto.outline ∙ c.crack_torn.auto.outline

pub shape_of-log : goal.shape_of-log
shape_of-log c = c.finish.auto.log ∙ c.crack_torn.auto.log

pub shape_of-links : goal.shape_of-links
shape_of-links c = c.finish.auto.links ∙ c.crack_torn.auto.links

pub returns : goal.returns
returns c = let A = c.args in
    body_done (kind_is A.kind) A.minimum A.torn.now _ c.crack_torn.ensures.0 _ c.in_ok-counts.was c.finish.ensures
