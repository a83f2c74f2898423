-- `perform::calls::cut_marked` meets its contract: the cut comes behind its marks, unless they tell that there is none. Assumes nothing.
use Rattle.std.proofs.lemmas.Result.{err_from_is_err_and}
use mathlib.Core.Path.{refl, sym, ◌∙◌, ap}
use borrow.Author.Rules.{rules}
use Rattle.elements.specs.Table.{kind_is}
use Rattle.marks.specs.Marking.{blade_by}
use Rattle.mesh.specs.Log.{World, world_at}
use Rattle.call_frame.proofs.Calls.{unlogged}
use Rattle.mesh.proofs.Agree.{lent_path}
use Rattle.work.proofs.Runs.{works_known}
use Rattle.crack.proofs.BodyLaws.{left_ready, left_entries, left_words}
use Rattle.perform.proofs.PassedBy.{marks_passed}
use Rattle.perform.proofs.Worked.{marked_indexed, marks_refused, marks_done}
use Rattle.perform.proofs.calls.cut_marked.Goals as goal

-- `perform::calls::cut_marked` meets its contract: the cut comes behind its marks, unless they tell that there is none. Assumes nothing.
pub note_crossings-requires : goal.note_crossings-requires
note_crossings-requires c = c.requires.0

pub shape_of-log-in_err-counts : goal.shape_of-log-in_err-counts
shape_of-log-in_err-counts c = c.note_crossings.auto.log

pub returns-in_err-counts : goal.returns-in_err-counts
returns-in_err-counts c =
    let A = c.args in
    let p = err_from_is_err_and c.from_residual.result c.from_residual.ensures.1 in rw (p.1, p.2, sym c.in_err-counts.was) (marks_refused (kind_is A.kind) (blade_by A.rule A.b0 A.b1) A.f c.note_crossings.ensures _ c.in_err-counts.was)

pub shape_of-log-then-passed_by : goal.shape_of-log-then-passed_by
shape_of-log-then-passed_by c = c.note_crossings.auto.log

pub returns-then-passed_by : goal.returns-then-passed_by
returns-then-passed_by c =
    let A = c.args in
    marks_passed A.rule A.kind A.b0 A.b1 A.f _ (sym c.passed_by.ensures ∙ c.if-passed_by.true) (λ z. ap (λ (x : World). x.log) (unlogged _ _ _ _ _ _ _ _ _ z)) (works_known _ _ c.in_ok-counts.was c.note_crossings.ensures)

pub run-requires : goal.run-requires
unfolding world_at
run-requires c =
    let A = c.args in
    let P = c.requires in
    let S = c.note_crossings in
    let F = works_known _ _ c.in_ok-counts.was S.ensures in (
      left_ready F P.1.entries P.1.words (marked_indexed (kind_is A.kind) (blade_by A.rule A.b0 A.b1)) A.k _ _ P.0 (lent_path _ _ refl refl refl refl refl refl refl S.auto.log),
      record { entries = left_entries F P.1.entries P.1.words; words = left_words F P.1.entries P.1.words },
      P.2,
    )

pub shape_of-points : goal.shape_of-points
shape_of-points c = c.run.auto.points

pub shape_of-roots : goal.shape_of-roots
shape_of-roots c = c.run.auto.roots

pub shape_of-corners : goal.shape_of-corners
shape_of-corners c = c.run.auto.corners

pub shape_of-ends : goal.shape_of-ends
shape_of-ends c = c.run.auto.ends

pub shape_of-lengths : goal.shape_of-lengths
shape_of-lengths c = c.run.auto.lengths

pub shape_of-outline : goal.shape_of-outline
shape_of-outline c = c.run.auto.outline

pub shape_of-log : goal.shape_of-log
shape_of-log c = c.run.auto.log ∙ c.note_crossings.auto.log

pub shape_of-list : goal.shape_of-list
shape_of-list c = c.run.auto.list

pub returns : goal.returns
returns c =
    let A = c.args in
    marks_done (kind_is A.kind) (blade_by A.rule A.b0 A.b1) A.f c.note_crossings.ensures _ c.in_ok-counts.was c.run.ensures
