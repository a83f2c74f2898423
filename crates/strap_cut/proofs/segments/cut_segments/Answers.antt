-- `strap_cut::segments::cut_segments` meets its contract. A crossing lacks room; or the rest of the cut is done behind all crossings. Assumes nothing.
use Rattle.std.proofs.lemmas.Result.{err_from_is_err_and}
use Rattle.strap_cut.proofs.CrossedStart.{cleared_there}
use Rattle.strap_cut.proofs.SegmentRuns.{segments_refused, crossed_ready, crossed_logged, segments_done}
use Rattle.mesh.proofs.Agree.{lent_path}
use mathlib.Core.Path.{refl, ◌∙◌, sym}
use borrow.Author.Rules.{rules}
use native.Mathlib.Omega.{arith}
use Rattle.strap_cut.proofs.segments.cut_segments.Goals as goal

pub cross_blade-requires : goal.cross_blade-requires
cross_blade-requires c = let A = c.args in
    let P = c.requires in
    (record { corners = A.corners.now; volumes = A.volumes.now; ready = P.0; bends_long = omega (arith, P.3, c.clear.auto.s); snapped_long = omega (arith, P.2, c.clear-2.auto.s) }, P.1)

pub shape_of-points-in_err-crossed : goal.shape_of-points-in_err-crossed
shape_of-points-in_err-crossed c = c.cross_blade.auto.points

pub shape_of-roots-in_err-crossed : goal.shape_of-roots-in_err-crossed
shape_of-roots-in_err-crossed c = c.cross_blade.auto.roots

pub shape_of-ends-in_err-crossed : goal.shape_of-ends-in_err-crossed
shape_of-ends-in_err-crossed c = c.cross_blade.auto.ends

pub shape_of-lengths-in_err-crossed : goal.shape_of-lengths-in_err-crossed
shape_of-lengths-in_err-crossed c = c.cross_blade.auto.lengths

pub shape_of-outline-in_err-crossed : goal.shape_of-outline-in_err-crossed
shape_of-outline-in_err-crossed c = c.cross_blade.auto.outline

pub shape_of-log-in_err-crossed : goal.shape_of-log-in_err-crossed
shape_of-log-in_err-crossed c = c.cross_blade.auto.log

pub shape_of-marks-in_err-crossed : goal.shape_of-marks-in_err-crossed
shape_of-marks-in_err-crossed c = c.cross_blade.auto.snapped ∙ c.clear-2.auto.s

pub shape_of-bends-in_err-crossed : goal.shape_of-bends-in_err-crossed
shape_of-bends-in_err-crossed c = c.cross_blade.auto.bends ∙ c.clear.auto.s

pub returns-in_err-crossed : goal.returns-in_err-crossed
returns-in_err-crossed c = let A = c.args in
    let P = c.requires in
    let U = c.cross_blade in
    let p = err_from_is_err_and c.from_residual.result c.from_residual.ensures.1 in rw (p.1, p.2, sym c.in_err-crossed.was) (segments_refused A.b0 A.b1 A.f A.room A.k A.points.now A.roots.now A.corners.now A.volumes.now A.ends.now A.lengths.now A.outline.now A.log.now P.0 _ _ _ _ _ _ _ _ _ _ _ U.ensures _ c.in_err-crossed.was)

pub after_crossings-requires : goal.after_crossings-requires
after_crossings-requires c = let A = c.args in
    let P = c.requires in
    let U = c.cross_blade in
    (crossed_ready A.b0 A.b1 A.f A.room A.k A.points.now A.roots.now A.corners.now A.volumes.now A.ends.now A.lengths.now A.outline.now A.log.now P.0 _ _ _ _ _ _ _ _ _ _ _ U.ensures _ c.in_ok-crossed.was P.1 _ (lent_path _ _ U.auto.points U.auto.roots refl refl U.auto.ends U.auto.lengths U.auto.outline U.auto.log), crossed_logged A.b0 A.b1 A.f A.room A.k A.points.now A.roots.now A.corners.now A.volumes.now A.ends.now A.lengths.now A.outline.now A.log.now P.0 _ _ _ _ _ _ _ _ _ _ _ U.ensures _ c.in_ok-crossed.was P.1, record { bends_long = omega (arith, P.3, U.auto.bends, c.clear.auto.s); snapped_long = omega (arith, P.2, U.auto.snapped, c.clear-2.auto.s) })

pub shape_of-points : goal.shape_of-points
shape_of-points c = c.after_crossings.auto.points ∙ c.cross_blade.auto.points

pub shape_of-roots : goal.shape_of-roots
shape_of-roots c = c.after_crossings.auto.roots ∙ c.cross_blade.auto.roots

pub shape_of-corners : goal.shape_of-corners
shape_of-corners c = c.after_crossings.auto.corners

pub shape_of-ends : goal.shape_of-ends
shape_of-ends c = c.after_crossings.auto.ends ∙ c.cross_blade.auto.ends

pub shape_of-lengths : goal.shape_of-lengths
shape_of-lengths c = c.after_crossings.auto.lengths ∙ c.cross_blade.auto.lengths

pub shape_of-outline : goal.shape_of-outline
shape_of-outline c = c.after_crossings.auto.outline ∙ c.cross_blade.auto.outline

pub shape_of-log : goal.shape_of-log
shape_of-log c = c.after_crossings.auto.log ∙ c.cross_blade.auto.log

pub shape_of-marks : goal.shape_of-marks
shape_of-marks c = c.cross_blade.auto.snapped ∙ c.clear-2.auto.s

pub shape_of-bends : goal.shape_of-bends
shape_of-bends c = c.after_crossings.auto.bends ∙ c.cross_blade.auto.bends ∙ c.clear.auto.s

pub returns : goal.returns
returns c = let A = c.args in
    let P = c.requires in
    let U = c.cross_blade in
    segments_done A.b0 A.b1 A.f A.room A.k A.points.now A.roots.now A.corners.now A.volumes.now A.ends.now A.lengths.now A.outline.now A.log.now P.0 _ _ _ _ _ _ _ _ _ _ _ U.ensures _ c.in_ok-crossed.was (cleared_there _ _ c.clear.ensures) (cleared_there _ _ c.clear-2.ensures) _ _ c.after_crossings.ensures
