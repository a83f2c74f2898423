-- `cut::facets::split_next` meets its contract. The plain split; and where a snapped end got copies, the edges at them are slack. Assumes nothing.
use Rattle.std.proofs.lemmas.Result.{err_from_is_err_and}
use mathlib.Core.Path.{refl, sym, ◌∙◌}
use native.Mathlib.Omega.{arith}
use borrow.Rule.Slice.PartMut.{same_len_mid}
use Rattle.lists.proofs.Truths.{of_not, of_not_false}
use Rattle.elements.specs.Table.{kind_is}
use Rattle.work.proofs.Runs.{works_known}
use Rattle.edge_drops.proofs.PartedLaws.{listing_done, works_closed}
use Rattle.split.proofs.LinkLaws.{parted_done, close_lent, close_back}
use Rattle.cut.proofs.SnapLaws.{blocks_refused, blocks_plain, blocks_edges, blocks_slack}
use borrow.Author.Rules.{rules}
use mathlib.Core.Path.{ap}
use mathlib.Core.Bool.{not}
use Rattle.cut.proofs.facets.split_next.Goals as goal

-- `cut::facets::split_next` meets its contract. The plain split; and where a snapped end got copies, the edges at them are slack. Assumes nothing.
pub split_one-requires : goal.split_one-requires
split_one-requires c = let P = c.requires in (P.0, P.1.here, P.2, P.3)

pub shape_of-points-in_err-next : goal.shape_of-points-in_err-next
shape_of-points-in_err-next c = c.split_one.auto.points

pub shape_of-roots-in_err-next : goal.shape_of-roots-in_err-next
shape_of-roots-in_err-next c = c.split_one.auto.roots

pub shape_of-corners-in_err-next : goal.shape_of-corners-in_err-next
shape_of-corners-in_err-next c = c.split_one.auto.corners

pub shape_of-ends-in_err-next : goal.shape_of-ends-in_err-next
shape_of-ends-in_err-next c = c.split_one.auto.ends

pub shape_of-lengths-in_err-next : goal.shape_of-lengths-in_err-next
shape_of-lengths-in_err-next c = c.split_one.auto.lengths

pub shape_of-outline-in_err-next : goal.shape_of-outline-in_err-next
shape_of-outline-in_err-next c = c.split_one.auto.outline

pub shape_of-log-in_err-next : goal.shape_of-log-in_err-next
shape_of-log-in_err-next c = c.split_one.auto.log

pub shape_of-list-in_err-next : goal.shape_of-list-in_err-next
shape_of-list-in_err-next c = c.split_one.auto.list

pub shape_of-links-in_err-next : goal.shape_of-links-in_err-next
shape_of-links-in_err-next c = c.split_one.auto.links

pub returns-in_err-next : goal.returns-in_err-next
returns-in_err-next c = let A = c.args in let P = c.requires in let S = c.split_one in let p = err_from_is_err_and c.from_residual.result c.from_residual.ensures.1 in rw (p.1, p.2, sym c.in_err-next.was) (blocks_refused A.way (kind_is A.kind) A.v A.k A.points.now A.roots.now A.corners.now A.volumes.now A.ends.now A.lengths.now A.outline.now A.log.now A.room _ P.0 _ _ c.in_err-next.was S.ensures.0.0, tt)

pub close-requires : goal.close-requires
close-requires c = let S = c.split_one in (listing_done _ _ _ _ _ c.in_ok-next.was S.ensures.0.1, close_lent (parted_done S.new.list _ _ c.in_ok-next.was S.ensures.1))

pub shape_of-points-then-not-slackens : goal.shape_of-points-then-not-slackens
shape_of-points-then-not-slackens c = c.split_one.auto.points

pub shape_of-roots-then-not-slackens : goal.shape_of-roots-then-not-slackens
shape_of-roots-then-not-slackens c = c.split_one.auto.roots

pub shape_of-corners-then-not-slackens : goal.shape_of-corners-then-not-slackens
shape_of-corners-then-not-slackens c = c.split_one.auto.corners

pub shape_of-ends-then-not-slackens : goal.shape_of-ends-then-not-slackens
shape_of-ends-then-not-slackens c = c.close.auto.ends ∙ c.split_one.auto.ends

pub shape_of-lengths-then-not-slackens : goal.shape_of-lengths-then-not-slackens
shape_of-lengths-then-not-slackens c = c.close.auto.lengths ∙ c.split_one.auto.lengths

pub shape_of-outline-then-not-slackens : goal.shape_of-outline-then-not-slackens
shape_of-outline-then-not-slackens c = c.split_one.auto.outline

pub shape_of-log-then-not-slackens : goal.shape_of-log-then-not-slackens
shape_of-log-then-not-slackens c = c.split_one.auto.log

pub shape_of-list-then-not-slackens : goal.shape_of-list-then-not-slackens
shape_of-list-then-not-slackens c = c.split_one.auto.list

pub shape_of-links-then-not-slackens : goal.shape_of-links-then-not-slackens
shape_of-links-then-not-slackens c = same_len_mid 4096 5120 c.split_one.new.links c.close.new.table c.close.auto.table ∙ c.split_one.auto.links

pub returns-then-not-slackens : goal.returns-then-not-slackens
returns-then-not-slackens c = let A = c.args in let P = c.requires in let S = c.split_one in let F = works_closed _ _ _ _ _ _ _ _ _ _ _ _ c.close.ensures.0 (works_known _ _ c.in_ok-next.was S.ensures.0.0) in
    (blocks_plain A.way (kind_is A.kind) A.v A.k A.points.now A.roots.now A.corners.now A.volumes.now A.ends.now A.lengths.now A.outline.now A.log.now A.room _ P.0 _ _ _ _ _ _ _ _ _ refl (sym c.slackens.ensures ∙ of_not _ (sym (ap not c.if-not-slackens.true))) F, close_back _ (parted_done S.new.list _ _ c.in_ok-next.was S.ensures.1) c.close.auto.table c.close.ensures.1)

pub slacken_from-requires : goal.slacken_from-requires
slacken_from-requires c = let A = c.args in let P = c.requires in let S = c.split_one in
    blocks_edges A.way (kind_is A.kind) A.v A.k A.points.now A.roots.now A.corners.now A.volumes.now A.ends.now A.lengths.now A.outline.now A.log.now A.room _ P.0 _ _ c.in_ok-next.was S.ensures.0.0 P.1.logged _ _ (c.close.auto.ends ∙ S.auto.ends) (c.close.auto.lengths ∙ S.auto.lengths)

pub shape_of-points : goal.shape_of-points
shape_of-points c = c.split_one.auto.points

pub shape_of-roots : goal.shape_of-roots
shape_of-roots c = c.split_one.auto.roots

pub shape_of-corners : goal.shape_of-corners
shape_of-corners c = c.split_one.auto.corners

pub shape_of-ends : goal.shape_of-ends
shape_of-ends c = c.close.auto.ends ∙ c.split_one.auto.ends

pub shape_of-lengths : goal.shape_of-lengths
shape_of-lengths c = c.slacken_from.auto.lengths ∙ c.close.auto.lengths ∙ c.split_one.auto.lengths

pub shape_of-outline : goal.shape_of-outline
shape_of-outline c = c.split_one.auto.outline

pub shape_of-log : goal.shape_of-log
shape_of-log c = c.split_one.auto.log

pub shape_of-list : goal.shape_of-list
shape_of-list c = c.split_one.auto.list

pub shape_of-links : goal.shape_of-links
shape_of-links c = same_len_mid 4096 5120 c.split_one.new.links c.close.new.table c.close.auto.table ∙ c.split_one.auto.links

pub returns : goal.returns
returns c = let A = c.args in let P = c.requires in let S = c.split_one in let F = works_closed _ _ _ _ _ _ _ _ _ _ _ _ c.close.ensures.0 (works_known _ _ c.in_ok-next.was S.ensures.0.0) in
    (blocks_slack A.way (kind_is A.kind) A.v A.k A.points.now A.roots.now A.corners.now A.volumes.now A.ends.now A.lengths.now A.outline.now A.log.now A.room _ P.0 _ _ _ _ _ _ _ _ _ _ refl (sym c.slackens.ensures ∙ of_not_false _ (sym (ap not c.if-not-slackens.false))) F c.slacken_from.ensures, close_back _ (parted_done S.new.list _ _ c.in_ok-next.was S.ensures.1) c.close.auto.table c.close.ensures.1)
