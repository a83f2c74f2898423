-- `tear::opens::tear_open` meets its contract: the step, and what is done behind it. Assumes nothing.
use Rattle.std.proofs.lemmas.Result.{err_from_is_err_and}
use native.Mathlib.Omega.{arith}
use mathlib.Core.Path.{◌∙◌, sym}
use Rattle.elements.specs.Table.{kind_is}
use borrow.Rule.Slice.PartMut.{same_len_mid}
use Rattle.edge_drops.proofs.PartedLaws.{listing_done}
use Rattle.split.proofs.LinkLaws.{parted_done, close_lent, close_back}
use Rattle.tear.proofs.TornLaws.{closed_step, tear_room, tear_told, tear_refused, linked_told}
use borrow.Author.Rules.{rules}
use Rattle.tear.proofs.opens.tear_open.Goals as goal

-- `tear::opens::tear_open` meets its contract: the step, and what is done behind it. Assumes nothing.
pub split_opened-requires : goal.split_opened-requires
split_opened-requires c = let P = c.requires in (P.0, P.1, omega arith, P.3, P.4)

pub shape_of-points-in_err-q : goal.shape_of-points-in_err-q
shape_of-points-in_err-q c = c.split_opened.auto.points

pub shape_of-roots-in_err-q : goal.shape_of-roots-in_err-q
shape_of-roots-in_err-q c = c.split_opened.auto.roots

pub shape_of-corners-in_err-q : goal.shape_of-corners-in_err-q
shape_of-corners-in_err-q c = c.split_opened.auto.corners

pub shape_of-ends-in_err-q : goal.shape_of-ends-in_err-q
shape_of-ends-in_err-q c = c.split_opened.auto.ends

pub shape_of-lengths-in_err-q : goal.shape_of-lengths-in_err-q
shape_of-lengths-in_err-q c = c.split_opened.auto.lengths

pub shape_of-outline-in_err-q : goal.shape_of-outline-in_err-q
shape_of-outline-in_err-q c = c.split_opened.auto.outline

pub shape_of-log-in_err-q : goal.shape_of-log-in_err-q
shape_of-log-in_err-q c = c.split_opened.auto.log

pub shape_of-list-in_err-q : goal.shape_of-list-in_err-q
shape_of-list-in_err-q c = c.split_opened.auto.list

pub shape_of-links-in_err-q : goal.shape_of-links-in_err-q
shape_of-links-in_err-q c = c.split_opened.auto.links

pub returns-in_err-q : goal.returns-in_err-q
returns-in_err-q c = let P = c.requires in let A = c.args in let S = c.split_opened in
    let p = err_from_is_err_and c.from_residual.result c.from_residual.ensures.1 in rw (p.1, p.2, sym c.in_err-q.was) (tear_refused (kind_is A.kind) A.room A.k A.points.now A.roots.now A.corners.now A.volumes.now A.ends.now A.lengths.now A.outline.now A.log.now P.0 P.1 A.w A.x A.y A.a A.b P.2 _ _ _ _ _ _ _ _ _ _ S.ensures.0 c.in_err-q.was, tt)

pub close-requires : goal.close-requires
close-requires c = let S = c.split_opened in (listing_done _ _ _ _ _ c.in_ok-q.was S.ensures.1.0, close_lent (parted_done S.new.list _ _ c.in_ok-q.was S.ensures.1.1))

pub finish_tear-requires : goal.finish_tear-requires
finish_tear-requires c = let P = c.requires in let A = c.args in let S = c.split_opened in let C = c.close in let T = closed_step (kind_is A.kind) A.room A.k A.points.now A.roots.now A.corners.now A.volumes.now A.ends.now A.lengths.now A.outline.now A.log.now P.0 P.1 A.w A.x A.y A.a A.b P.2 _ _ _ _ _ _ _ _ _ _ _ _ c.in_ok-q.was C.ensures.0 S.ensures.0 in
    tear_room (kind_is A.kind) A.room A.k A.points.now A.roots.now A.corners.now A.volumes.now A.ends.now A.lengths.now A.outline.now A.log.now P.0 P.1 A.w A.x A.y A.a A.b P.2 _ _ _ _ _ _ _ _ T S.auto.roots (C.auto.ends ∙ S.auto.ends) (C.auto.lengths ∙ S.auto.lengths) S.auto.log

pub shape_of-points : goal.shape_of-points
shape_of-points c = c.split_opened.auto.points

pub shape_of-roots : goal.shape_of-roots
shape_of-roots c = c.finish_tear.auto.roots ∙ c.split_opened.auto.roots

pub shape_of-corners : goal.shape_of-corners
shape_of-corners c = c.split_opened.auto.corners

pub shape_of-ends : goal.shape_of-ends
shape_of-ends c = c.close.auto.ends ∙ c.split_opened.auto.ends

pub shape_of-lengths : goal.shape_of-lengths
shape_of-lengths c = c.finish_tear.auto.lengths ∙ c.close.auto.lengths ∙ c.split_opened.auto.lengths

pub shape_of-outline : goal.shape_of-outline
shape_of-outline c = c.split_opened.auto.outline

pub shape_of-log : goal.shape_of-log
shape_of-log c = c.finish_tear.auto.log ∙ c.split_opened.auto.log

pub shape_of-list : goal.shape_of-list
shape_of-list c = c.split_opened.auto.list

pub shape_of-links : goal.shape_of-links
shape_of-links c = same_len_mid 4096 5120 c.split_opened.new.links c.close.new.table c.close.auto.table ∙ c.split_opened.auto.links

pub returns : goal.returns
returns c = let P = c.requires in let A = c.args in let S = c.split_opened in let C = c.close in let T = closed_step (kind_is A.kind) A.room A.k A.points.now A.roots.now A.corners.now A.volumes.now A.ends.now A.lengths.now A.outline.now A.log.now P.0 P.1 A.w A.x A.y A.a A.b P.2 _ _ _ _ _ _ _ _ _ _ _ _ c.in_ok-q.was C.ensures.0 S.ensures.0 in
    (tear_told (kind_is A.kind) A.room A.k A.points.now A.roots.now A.corners.now A.volumes.now A.ends.now A.lengths.now A.outline.now A.log.now P.0 P.1 A.w A.x A.y A.a A.b P.2 _ _ _ _ _ _ _ _ T _ _ _ _ c.finish_tear.ensures S.auto.roots, linked_told (kind_is A.kind) _ _ _ _ _ _ c.finish_tear.ensures.counts (close_back _ (parted_done S.new.list _ _ c.in_ok-q.was S.ensures.1.1) C.auto.table C.ensures.1))
