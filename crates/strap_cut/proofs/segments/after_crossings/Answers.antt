-- `strap_cut::segments::after_crossings` meets its contract: the bend edges go, and then the ends are split. Assumes nothing.
use mathlib.Core.Path.{refl, ◌∙◌}
use native.Mathlib.Omega.{arith}
use Rattle.marks.specs.Marking.{blade_from}
use Rattle.mesh.proofs.Agree.{lent_path}
use Rattle.strap_cut.proofs.SegmentLaws.{unbent_room, ready_left, chosen_left, after_refused, after_done}
use borrow.Author.Rules.{rules}
use Rattle.strap_cut.proofs.segments.after_crossings.Goals as goal
use Rattle.std.proofs.lemmas.Result.{err_from_is_err_and}

-- `strap_cut::segments::after_crossings` meets its contract: the bend edges go, and then the ends are split. Assumes nothing.
pub remove_bends-requires : goal.remove_bends-requires
remove_bends-requires c = let P = c.requires in let A = c.args in
    unbent_room A.room A.k A.points.now A.roots.now A.corners.now A.volumes.now A.ends.now A.lengths.now A.outline.now A.log.now P.0 P.1 A.bends.now A.ends.now A.lengths.now A.outline.now A.log.now _ _ P.2

pub split_snapped-requires : goal.split_snapped-requires
split_snapped-requires c = let P = c.requires in let A = c.args in let U = c.remove_bends in
    (ready_left A.room A.k A.points.now A.roots.now A.corners.now A.volumes.now A.ends.now A.lengths.now A.outline.now A.log.now P.0 P.1 A.bends.now _ _ _ _ _ _ U.ensures c.in_ok-left.was _ (lent_path _ _ refl refl refl refl U.auto.ends U.auto.lengths U.auto.outline U.auto.log), chosen_left A.room A.k A.points.now A.roots.now A.corners.now A.volumes.now A.ends.now A.lengths.now A.outline.now A.log.now P.0 P.1 A.bends.now _ _ _ _ _ _ U.ensures c.in_ok-left.was _ _ P.2, P.2.bends_long)

pub shape_of-ends-in_err-left : goal.shape_of-ends-in_err-left
shape_of-ends-in_err-left c = c.remove_bends.auto.ends

pub shape_of-lengths-in_err-left : goal.shape_of-lengths-in_err-left
shape_of-lengths-in_err-left c = c.remove_bends.auto.lengths

pub shape_of-outline-in_err-left : goal.shape_of-outline-in_err-left
shape_of-outline-in_err-left c = c.remove_bends.auto.outline

pub shape_of-log-in_err-left : goal.shape_of-log-in_err-left
shape_of-log-in_err-left c = c.remove_bends.auto.log

pub returns-in_err-left : goal.returns-in_err-left
returns-in_err-left c = let A = c.args in let p = err_from_is_err_and c.from_residual.result c.from_residual.ensures.1 in rw (p.1, p.2)
    (after_refused (blade_from A.b0 A.b1) A.room A.k A.points.now A.roots.now A.corners.now A.volumes.now A.ends.now A.lengths.now A.outline.now A.log.now A.bends.now A.snapped.now _ _ _ _ _ _ _ c.remove_bends.ensures c.in_err-left.was)

pub shape_of-points : goal.shape_of-points
shape_of-points c = c.split_snapped.auto.points

pub shape_of-roots : goal.shape_of-roots
shape_of-roots c = c.split_snapped.auto.roots

pub shape_of-corners : goal.shape_of-corners
shape_of-corners c = c.split_snapped.auto.corners

pub shape_of-ends : goal.shape_of-ends
shape_of-ends c = c.split_snapped.auto.ends ∙ c.remove_bends.auto.ends

pub shape_of-lengths : goal.shape_of-lengths
shape_of-lengths c = c.split_snapped.auto.lengths ∙ c.remove_bends.auto.lengths

pub shape_of-outline : goal.shape_of-outline
shape_of-outline c = c.split_snapped.auto.outline ∙ c.remove_bends.auto.outline

pub shape_of-log : goal.shape_of-log
shape_of-log c = c.split_snapped.auto.log ∙ c.remove_bends.auto.log

pub shape_of-bends : goal.shape_of-bends
shape_of-bends c = c.split_snapped.auto.list

pub returns : goal.returns
returns c = let P = c.requires in let A = c.args in
    after_done (blade_from A.b0 A.b1) A.room A.k A.points.now A.roots.now A.corners.now A.volumes.now A.ends.now A.lengths.now A.outline.now A.log.now A.bends.now A.snapped.now _ _ _ _ _ _ _ _ c.remove_bends.ensures c.in_ok-left.was c.split_snapped.ensures (omega (arith, P.2.snapped_long, P.0.counts.particles, P.0.rooms.few_particles))
