-- `cut::facets::cut_facets` meets its contract. The candidates lack room; or nothing split; or the pinched are split behind them. Assumes nothing.
use Rattle.std.proofs.lemmas.Result.{err_from_is_err_and}
use Rattle.work.proofs.Runs.{works_known}
use Rattle.cut.proofs.CutLaws.{candidate_room, chosen_room, candidates_work, facets_refused, facets_unsplit, facets_split}
use Rattle.cut.proofs.RunLaws.{within_at, ready_at, entries_at, words_at}
use Rattle.split.proofs.LinkLaws.{linked_done}
use Rattle.marks.specs.Marking.{blade_by}
use Rattle.cut.specs.declared.facets.Parting.TheVariants.{Blade as BladeFrom}
use Rattle.model.specs.Elements.{Triangles}
use Rattle.mesh.proofs.Agree.{lent_path}
use Rattle.mesh.specs.Log.{world_at}
use mathlib.Core.Path.{refl, ◌∙◌, sym}
use borrow.Author.Rules.{rules}
use native.Mathlib.Omega.{arith}
use Rattle.cut.proofs.facets.cut_facets.Goals as goal

-- `cut::facets::cut_facets` meets its contract. The candidates lack room; or nothing split; or the pinched are split behind them. Assumes nothing.
pub mark_candidates-requires : goal.mark_candidates-requires
mark_candidates-requires c = let A = c.args in
    let P = c.requires in
    candidate_room A.k A.points.now A.roots.now A.corners.now A.volumes.now A.ends.now A.lengths.now A.outline.now A.log.now A.room _ P.0 refl refl refl

pub split_marked-requires : goal.split_marked-requires
split_marked-requires c = let A = c.args in
    let P = c.requires in
    (P.0, chosen_room A.k A.points.now A.roots.now A.corners.now A.volumes.now A.ends.now A.lengths.now A.outline.now A.log.now A.room _ P.0 refl refl refl _ (omega (arith, P.2, c.mark_candidates.auto.marks)) P.1, P.3, P.4)

pub shape_of-points-in_err-counts : goal.shape_of-points-in_err-counts
shape_of-points-in_err-counts c = c.split_marked.auto.points

pub shape_of-roots-in_err-counts : goal.shape_of-roots-in_err-counts
shape_of-roots-in_err-counts c = c.split_marked.auto.roots

pub shape_of-corners-in_err-counts : goal.shape_of-corners-in_err-counts
shape_of-corners-in_err-counts c = c.split_marked.auto.corners

pub shape_of-ends-in_err-counts : goal.shape_of-ends-in_err-counts
shape_of-ends-in_err-counts c = c.split_marked.auto.ends

pub shape_of-lengths-in_err-counts : goal.shape_of-lengths-in_err-counts
shape_of-lengths-in_err-counts c = c.split_marked.auto.lengths

pub shape_of-outline-in_err-counts : goal.shape_of-outline-in_err-counts
shape_of-outline-in_err-counts c = c.split_marked.auto.outline

pub shape_of-log-in_err-counts : goal.shape_of-log-in_err-counts
shape_of-log-in_err-counts c = c.split_marked.auto.log

pub shape_of-marks-in_err-counts : goal.shape_of-marks-in_err-counts
shape_of-marks-in_err-counts c = c.mark_candidates.auto.marks

pub shape_of-list-in_err-counts : goal.shape_of-list-in_err-counts
shape_of-list-in_err-counts c = c.split_marked.auto.list

pub shape_of-links-in_err-counts : goal.shape_of-links-in_err-counts
shape_of-links-in_err-counts c = c.split_marked.auto.links

pub returns-in_err-counts : goal.returns-in_err-counts
returns-in_err-counts c = let A = c.args in
    let P = c.requires in
    let p = err_from_is_err_and c.from_residual.result c.from_residual.ensures.1 in rw (p.1, p.2, sym c.in_err-counts.was) (facets_refused (blade_by A.rule A.b0 A.b1) _ _ c.in_err-counts.was (candidates_work A.k A.points.now A.roots.now A.corners.now A.volumes.now A.ends.now A.lengths.now A.outline.now A.log.now A.room _ P.0 refl refl refl A.rule A.b0 A.b1 _ (omega (arith, P.2, c.mark_candidates.auto.marks)) c.mark_candidates.ensures c.split_marked.ensures.0), tt)

pub any_split-requires : goal.any_split-requires
unfolding world_at
any_split-requires c = let A = c.args in
    let P = c.requires in
    let b = within_at (BladeFrom A.rule A.b0 A.b1) Triangles A.room _ A.k.particles (works_known _ _ c.in_ok-counts.was c.split_marked.ensures.0) P.1.entries P.1.words in
    omega (arith, b.log, P.0.rooms.log, c.split_marked.auto.log)

pub split_pinched-requires : goal.split_pinched-requires
unfolding world_at
split_pinched-requires c = let A = c.args in
    let P = c.requires in
    (ready_at (BladeFrom A.rule A.b0 A.b1) Triangles A.room _ A.k.particles (works_known _ _ c.in_ok-counts.was c.split_marked.ensures.0) P.1.entries P.1.words A.k _ _ P.0 (lent_path _ _ c.split_marked.auto.points c.split_marked.auto.roots c.split_marked.auto.corners refl c.split_marked.auto.ends c.split_marked.auto.lengths c.split_marked.auto.outline c.split_marked.auto.log), record { entries = entries_at (BladeFrom A.rule A.b0 A.b1) Triangles A.room _ A.k.particles (works_known _ _ c.in_ok-counts.was c.split_marked.ensures.0) P.1.entries P.1.words; words = words_at (BladeFrom A.rule A.b0 A.b1) Triangles A.room _ A.k.particles (works_known _ _ c.in_ok-counts.was c.split_marked.ensures.0) P.1.entries P.1.words }, omega (arith, P.2, c.mark_candidates.auto.marks), omega (arith, P.3, c.split_marked.auto.list), linked_done _ _ c.in_ok-counts.was c.split_marked.ensures.1)

pub shape_of-points-then-any_split : goal.shape_of-points-then-any_split
shape_of-points-then-any_split c = c.split_pinched.auto.points ∙ c.split_marked.auto.points

pub shape_of-roots-then-any_split : goal.shape_of-roots-then-any_split
shape_of-roots-then-any_split c = c.split_pinched.auto.roots ∙ c.split_marked.auto.roots

pub shape_of-corners-then-any_split : goal.shape_of-corners-then-any_split
shape_of-corners-then-any_split c = c.split_pinched.auto.corners ∙ c.split_marked.auto.corners

pub shape_of-ends-then-any_split : goal.shape_of-ends-then-any_split
shape_of-ends-then-any_split c = c.split_pinched.auto.ends ∙ c.split_marked.auto.ends

pub shape_of-lengths-then-any_split : goal.shape_of-lengths-then-any_split
shape_of-lengths-then-any_split c = c.split_pinched.auto.lengths ∙ c.split_marked.auto.lengths

pub shape_of-outline-then-any_split : goal.shape_of-outline-then-any_split
shape_of-outline-then-any_split c = c.split_pinched.auto.outline ∙ c.split_marked.auto.outline

pub shape_of-log-then-any_split : goal.shape_of-log-then-any_split
shape_of-log-then-any_split c = c.split_pinched.auto.log ∙ c.split_marked.auto.log

pub shape_of-marks-then-any_split : goal.shape_of-marks-then-any_split
shape_of-marks-then-any_split c = c.split_pinched.auto.marks ∙ c.mark_candidates.auto.marks

pub shape_of-list-then-any_split : goal.shape_of-list-then-any_split
shape_of-list-then-any_split c = c.split_pinched.auto.list ∙ c.split_marked.auto.list

pub shape_of-links-then-any_split : goal.shape_of-links-then-any_split
shape_of-links-then-any_split c = c.split_pinched.auto.links ∙ c.split_marked.auto.links

pub returns-then-any_split : goal.returns-then-any_split
unfolding world_at
returns-then-any_split c = let A = c.args in
    let P = c.requires in
    (facets_split (blade_by A.rule A.b0 A.b1) _ _ c.in_ok-counts.was (candidates_work A.k A.points.now A.roots.now A.corners.now A.volumes.now A.ends.now A.lengths.now A.outline.now A.log.now A.room _ P.0 refl refl refl A.rule A.b0 A.b1 _ (omega (arith, P.2, c.mark_candidates.auto.marks)) c.mark_candidates.ensures c.split_marked.ensures.0) _ c.any_split.ensures.is c.if-any_split.true c.split_pinched.ensures.0, c.split_pinched.ensures.1)

pub shape_of-points : goal.shape_of-points
shape_of-points c = c.split_marked.auto.points

pub shape_of-roots : goal.shape_of-roots
shape_of-roots c = c.split_marked.auto.roots

pub shape_of-corners : goal.shape_of-corners
shape_of-corners c = c.split_marked.auto.corners

pub shape_of-ends : goal.shape_of-ends
shape_of-ends c = c.split_marked.auto.ends

pub shape_of-lengths : goal.shape_of-lengths
shape_of-lengths c = c.split_marked.auto.lengths

pub shape_of-outline : goal.shape_of-outline
shape_of-outline c = c.split_marked.auto.outline

pub shape_of-log : goal.shape_of-log
shape_of-log c = c.split_marked.auto.log

pub shape_of-marks : goal.shape_of-marks
shape_of-marks c = c.mark_candidates.auto.marks

pub shape_of-list : goal.shape_of-list
shape_of-list c = c.split_marked.auto.list

pub shape_of-links : goal.shape_of-links
shape_of-links c = c.split_marked.auto.links

pub returns : goal.returns
unfolding world_at
returns c = let A = c.args in
    let P = c.requires in
    (facets_unsplit (blade_by A.rule A.b0 A.b1) _ _ c.in_ok-counts.was (candidates_work A.k A.points.now A.roots.now A.corners.now A.volumes.now A.ends.now A.lengths.now A.outline.now A.log.now A.room _ P.0 refl refl refl A.rule A.b0 A.b1 _ (omega (arith, P.2, c.mark_candidates.auto.marks)) c.mark_candidates.ensures c.split_marked.ensures.0) _ c.any_split.ensures.is (within_at (BladeFrom A.rule A.b0 A.b1) Triangles A.room _ A.k.particles (works_known _ _ c.in_ok-counts.was c.split_marked.ensures.0) P.1.entries P.1.words) c.if-any_split.false, linked_done _ _ c.in_ok-counts.was c.split_marked.ensures.1)
