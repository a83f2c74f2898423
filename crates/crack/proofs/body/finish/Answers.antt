-- `crack::body::finish` meets its contract: one part of the end comes behind the other, if the log tells of a split. Assumes nothing.
use Rattle.std.proofs.lemmas.Result.{err_from_is_err_and}
use mathlib.Core.Path.{refl, sym, ◌∙◌}
use Rattle.lists.proofs.Truths.{of_not, of_not_false}
use Rattle.elements.specs.Table.{kind_is}
use Rattle.model_laws.proofs.Indexed.{pinched_indexed}
use Rattle.mesh.specs.Log.{world_at}
use Rattle.mesh.proofs.Agree.{lent_path}
use Rattle.work.proofs.Runs.{beside, works_stay, works_known}
use Rattle.cut.proofs.CutLaws.{near_room}
use Rattle.crack.proofs.BodyLaws.{left_ready, straddlers_room, end_refused, end_done, end_unsplit}
use mathlib.Core.Path.{ap}
use mathlib.Core.Bool.{not}
use Rattle.crack.proofs.body.finish.Goals as goal

-- `crack::body::finish` meets its contract: one part of the end comes behind the other, if the log tells of a split. Assumes nothing.
pub any_split-requires : goal.any_split-requires
any_split-requires c = let A = c.args in let P = c.requires in near_room A.k A.points.now A.roots.now A.corners.now A.volumes.now A.ends.now A.lengths.now A.outline.now A.log.now A.room _ P.0 refl refl refl

pub returns-then-not-any_split : goal.returns-then-not-any_split
unfolding world_at
returns-then-not-any_split c = let A = c.args in let P = c.requires in end_unsplit (kind_is A.kind) c.any_split.result c.any_split.ensures.is (of_not _ (sym (ap not c.if-not-any_split.true))) (works_stay A.k P.0.counts)

pub split_pinched-requires : goal.split_pinched-requires
split_pinched-requires c = c.requires

pub shape_of-points-in_err-next : goal.shape_of-points-in_err-next
shape_of-points-in_err-next c = c.split_pinched.auto.points

pub shape_of-roots-in_err-next : goal.shape_of-roots-in_err-next
shape_of-roots-in_err-next c = c.split_pinched.auto.roots

pub shape_of-corners-in_err-next : goal.shape_of-corners-in_err-next
shape_of-corners-in_err-next c = c.split_pinched.auto.corners

pub shape_of-ends-in_err-next : goal.shape_of-ends-in_err-next
shape_of-ends-in_err-next c = c.split_pinched.auto.ends

pub shape_of-lengths-in_err-next : goal.shape_of-lengths-in_err-next
shape_of-lengths-in_err-next c = c.split_pinched.auto.lengths

pub shape_of-outline-in_err-next : goal.shape_of-outline-in_err-next
shape_of-outline-in_err-next c = c.split_pinched.auto.outline

pub shape_of-log-in_err-next : goal.shape_of-log-in_err-next
shape_of-log-in_err-next c = c.split_pinched.auto.log

pub shape_of-links-in_err-next : goal.shape_of-links-in_err-next
shape_of-links-in_err-next c = c.split_pinched.auto.links

pub returns-in_err-next : goal.returns-in_err-next
unfolding world_at
returns-in_err-next c = let A = c.args in
    let p = err_from_is_err_and c.from_residual.result c.from_residual.ensures.1 in rw (p.1, p.2, sym c.in_err-next.was) (end_refused (kind_is A.kind) c.any_split.result c.any_split.ensures.is _ _ c.in_err-next.was (of_not_false _ (sym (ap not c.if-not-any_split.false))) c.split_pinched.ensures)

pub remove_straddlers-requires : goal.remove_straddlers-requires
unfolding world_at
remove_straddlers-requires c = let A = c.args in let P = c.requires in
    straddlers_room _ A.room _ _ _ A.volumes.now _ _ _ c.split_pinched.new.log
    (left_ready (works_known _ _ c.in_ok-next.was c.split_pinched.ensures) P.1.entries P.1.words (pinched_indexed (kind_is A.kind)) A.k _ _ P.0
    (lent_path _ _ c.split_pinched.auto.points c.split_pinched.auto.roots c.split_pinched.auto.corners refl c.split_pinched.auto.ends c.split_pinched.auto.lengths c.split_pinched.auto.outline c.split_pinched.auto.log))

pub shape_of-points : goal.shape_of-points
shape_of-points c = c.split_pinched.auto.points

pub shape_of-roots : goal.shape_of-roots
shape_of-roots c = c.split_pinched.auto.roots

pub shape_of-corners : goal.shape_of-corners
shape_of-corners c = c.split_pinched.auto.corners

pub shape_of-ends : goal.shape_of-ends
shape_of-ends c = c.remove_straddlers.auto.ends ∙ c.split_pinched.auto.ends

pub shape_of-lengths : goal.shape_of-lengths
shape_of-lengths c = c.remove_straddlers.auto.lengths ∙ c.split_pinched.auto.lengths

pub shape_of-outline : goal.shape_of-outline
shape_of-outline c = c.remove_straddlers.auto.outline ∙ c.split_pinched.auto.outline

pub shape_of-log : goal.shape_of-log
shape_of-log c = c.remove_straddlers.auto.log ∙ c.split_pinched.auto.log

pub shape_of-links : goal.shape_of-links
shape_of-links c = c.split_pinched.auto.links

pub returns : goal.returns
unfolding world_at
returns c = let A = c.args in
    end_done (kind_is A.kind) c.any_split.result c.any_split.ensures.is _ _ c.in_ok-next.was (of_not_false _ (sym (ap not c.if-not-any_split.false))) c.split_pinched.ensures (beside c.remove_straddlers.ensures _ _)
