-- `cut::facets::split_pinched` meets its contract. The pinched are marked, and then split. Assumes nothing.
use Rattle.cut.proofs.CutLaws.{near_room, pinched_room, chosen_room, pinched_works}
use mathlib.Core.Path.{refl, ◌∙◌}
use native.Mathlib.Omega.{arith}
use Rattle.cut.proofs.facets.split_pinched.Goals as goal

-- `cut::facets::split_pinched` meets its contract. The pinched are marked, and then split. Assumes nothing.
pub mark_near-requires : goal.mark_near-requires
mark_near-requires c = let A = c.args in
    let P = c.requires in
    near_room A.k A.points.now A.roots.now A.corners.now A.volumes.now A.ends.now A.lengths.now A.outline.now A.log.now A.room _ P.0 refl refl refl

pub mark_pinched-requires : goal.mark_pinched-requires
mark_pinched-requires c = let A = c.args in
    let P = c.requires in
    pinched_room A.k A.points.now A.roots.now A.corners.now A.volumes.now A.ends.now A.lengths.now A.outline.now A.log.now A.room _ P.0 refl refl refl _ (omega (arith, P.3, c.mark_near.auto.near))

pub split_marked-requires : goal.split_marked-requires
split_marked-requires c = let A = c.args in
    let P = c.requires in
    (P.0, chosen_room A.k A.points.now A.roots.now A.corners.now A.volumes.now A.ends.now A.lengths.now A.outline.now A.log.now A.room _ P.0 refl refl refl _ (omega (arith, P.2, c.mark_pinched.auto.marks)) P.1, omega (arith, P.3, c.mark_near.auto.near), P.4)

pub shape_of-points : goal.shape_of-points
shape_of-points c = c.split_marked.auto.points

pub shape_of-roots : goal.shape_of-roots
shape_of-roots c = c.split_marked.auto.roots

pub shape_of-corners : goal.shape_of-corners
shape_of-corners c = c.split_marked.auto.corners

pub shape_of-ends : goal.shape_of-ends
shape_of-ends c = c.split_marked.auto.ends

pub shape_of-lengths : goal.shape_of-lengths
shape_of-lengths c = c.split_marked.auto.lengths

pub shape_of-outline : goal.shape_of-outline
shape_of-outline c = c.split_marked.auto.outline

pub shape_of-log : goal.shape_of-log
shape_of-log c = c.split_marked.auto.log

pub shape_of-marks : goal.shape_of-marks
shape_of-marks c = c.mark_pinched.auto.marks

pub shape_of-list : goal.shape_of-list
shape_of-list c = c.split_marked.auto.list ∙ c.mark_near.auto.near

pub shape_of-links : goal.shape_of-links
shape_of-links c = c.split_marked.auto.links

pub returns : goal.returns
returns c = let A = c.args in
    let P = c.requires in
    (pinched_works A.k A.points.now A.roots.now A.corners.now A.volumes.now A.ends.now A.lengths.now A.outline.now A.log.now A.room _ P.0 refl refl refl _ _ (omega (arith, P.3, c.mark_near.auto.near)) (omega (arith, P.2, c.mark_pinched.auto.marks)) c.mark_near.ensures c.mark_pinched.ensures c.split_marked.ensures.0, c.split_marked.ensures.1)
