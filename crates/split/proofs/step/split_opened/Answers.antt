-- `split::step::split_opened` meets its contract: the two halves make the step (proofs/StepLaws.antt), and the tables are what the second one leaves. Assumes nothing.
use native.Mathlib.Omega.{arith}
use mathlib.Core.Path.{◌∙◌}
use Rattle.elements.specs.Table.{kind_is}
use Rattle.split.proofs.StepLaws.{grow_room, tables_in, ends_here, named_here, settle_asked, room_made, ends_made, corners_made, all_lacking, all_settled}
use Rattle.split.proofs.LinkLaws.{fan_named, grown_linked}
use Rattle.links.proofs.Parts.{front_of}
use Rattle.std.proofs.lemmas.Result.{err_from_is_err_and}
use borrow.Author.Rules.{rules}
use Rattle.split.proofs.step.split_opened.Goals as goal

-- `split::step::split_opened` meets its contract: the two halves make the step (proofs/StepLaws.antt), and the tables are what the second one leaves. Assumes nothing.
pub grow-requires : goal.grow-requires
grow-requires c = let P = c.requires in let A = c.args in
    (grow_room (kind_is A.kind) A.room A.k A.points.now A.roots.now A.corners.now A.volumes.now A.ends.now A.lengths.now A.outline.now A.log.now P.0 P.1, tables_in (kind_is A.kind) A.room A.k A.points.now A.roots.now A.corners.now A.volumes.now A.ends.now A.lengths.now A.outline.now A.log.now P.0 P.1, ends_here (kind_is A.kind) A.room A.k A.points.now A.roots.now A.corners.now A.volumes.now A.ends.now A.lengths.now A.outline.now A.log.now P.0 P.1, named_here (kind_is A.kind) A.room A.k A.points.now A.roots.now A.corners.now A.volumes.now A.ends.now A.lengths.now A.outline.now A.log.now P.0 P.1, front_of P.4, fan_named (kind_is A.kind) A.room A.k A.points.now A.roots.now A.corners.now A.volumes.now A.ends.now A.lengths.now A.outline.now A.log.now P.0 P.1, P.3)

pub overflow_add-longest : goal.overflow_add-longest
overflow_add-longest c = let P = c.requires in let A = c.args in
    omega (arith, (room_made (kind_is A.kind) A.room A.k A.points.now A.roots.now A.corners.now A.volumes.now A.ends.now A.lengths.now A.outline.now A.log.now P.0 P.1 _ _ _ _ _ _ _ c.grow.ensures.0 c.in_ok-e.was).0, P.0.rooms.few_particles)

pub settle-requires : goal.settle-requires
settle-requires c = let P = c.requires in let A = c.args in let G = c.grow in let q = c.in_ok-e.was in let R = room_made (kind_is A.kind) A.room A.k A.points.now A.roots.now A.corners.now A.volumes.now A.ends.now A.lengths.now A.outline.now A.log.now P.0 P.1 _ _ _ _ _ _ _ G.ensures.0 q in
    (settle_asked (kind_is A.kind) A.room A.k A.points.now A.roots.now A.corners.now A.volumes.now A.ends.now A.lengths.now A.outline.now A.log.now P.0 P.1 _ _ _ _ _ _ P.2 R.0 R.1 G.auto.points G.auto.corners G.auto.ends G.auto.lengths (ends_made (kind_is A.kind) A.room A.k A.points.now A.roots.now A.corners.now A.volumes.now A.ends.now A.lengths.now A.outline.now A.log.now P.0 P.1 _ _ _ _ _ _ _ G.ensures.0 q), omega (arith, P.3, G.auto.list), grown_linked A.links.now G.new.links G.ensures.1 q P.4.sides, corners_made (kind_is A.kind) A.room A.k A.points.now A.roots.now A.corners.now A.volumes.now A.ends.now A.lengths.now A.outline.now A.log.now P.0 P.1 _ _ _ _ _ _ _ G.ensures.0 q)

pub returns-in_err-e : goal.returns-in_err-e
returns-in_err-e c = let P = c.requires in let A = c.args in let p = err_from_is_err_and c.from_residual.result c.from_residual.ensures.1 in rw (p.1, p.2)
    (all_lacking (kind_is A.kind) A.room A.k A.points.now A.roots.now A.corners.now A.volumes.now A.ends.now A.lengths.now A.outline.now A.log.now P.0 P.1 _ _ _ _ _ _ _ _ c.grow.ensures.0 c.in_err-e.was, (tt, tt))

pub returns : goal.returns
returns c = let P = c.requires in let A = c.args in let S = c.settle in
    (all_settled (kind_is A.kind) A.room A.k A.points.now A.roots.now A.corners.now A.volumes.now A.ends.now A.lengths.now A.outline.now A.log.now P.0 P.1 _ _ _ _ _ _ _ _ _ _ _ _ c.grow.ensures.0 c.in_ok-e.was S.ensures.0, (S.ensures.1, S.ensures.2))
