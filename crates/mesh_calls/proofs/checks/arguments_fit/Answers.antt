-- `mesh_calls::checks::arguments_fit` meets its contract: the test of each job. Assumes nothing.
use mathlib.Core.Path.{refl}
use mathlib.Core.Logic.{⊎_elim}
use Rattle.mesh.specs.At.{mesh_at}
use Rattle.judge.proofs.Joined.{and_next}
use Rattle.mesh_calls.specs.declared.Job.TheVariants.{Straddlers, Split, Cut, Crack}
use Rattle.mesh_calls.proofs.Asked.{known_first, known_second, room_test, job_fits}
use native.Mathlib.Omega.{arith}
use borrow.Author.Rules.{rules}
use Rattle.mesh_calls.proofs.checks.arguments_fit.Goals as goal
use Rattle.mesh_calls.proofs.checks.arguments_fit.Goals.{else-edition-eq1, then-edition-eq1}

pub returns-in-Straddlers : goal.returns-in-Straddlers
returns-in-Straddlers c = let A = c.args in job_fits (mesh_at A.k A.in_points.now A.in_roots.now A.in_corners.now A.in_volumes.now A.in_ends.now A.in_lengths.now A.in_outline.now) A.room A.job Straddlers A.list.now c.in-Straddlers.is (room_test A.k A.in_points.now A.in_roots.now A.in_corners.now A.in_volumes.now A.in_ends.now A.in_lengths.now A.in_outline.now A.room refl)

pub returns-in-Split : goal.returns-in-Split
returns-in-Split c = let A = c.args in job_fits (mesh_at A.k A.in_points.now A.in_roots.now A.in_corners.now A.in_volumes.now A.in_ends.now A.in_lengths.now A.in_outline.now) A.room A.job (Split _) A.list.now c.in-Split.is (and_next _ _ _ _ _ c.both.ensures c.sides_given-fit.ensures (room_test A.k A.in_points.now A.in_roots.now A.in_corners.now A.in_volumes.now A.in_ends.now A.in_lengths.now A.in_outline.now A.room refl))

pub returns-after-edition-eq1 : goal.returns-after-edition-eq1
returns-after-edition-eq1 c = let A = c.args in job_fits (mesh_at A.k A.in_points.now A.in_roots.now A.in_corners.now A.in_volumes.now A.in_ends.now A.in_lengths.now A.in_outline.now) A.room A.job (Cut _ _ _ _) A.list.now c.in-Cut.is (and_next _ _ _ _ _ c.both-in-Cut-2.ensures (and_next _ _ _ _ _ c.both-in-Cut.ensures (elim c.if-edition-eq1.branch [
  | then-edition-eq1 w ↦ known_first _ _ w.if-edition-eq1.true w.known-is
  | else-edition-eq1 w ↦ known_second _ _ w.if-edition-eq1.false w.known-is
]) c.fraction_fits.ensures) (room_test A.k A.in_points.now A.in_roots.now A.in_corners.now A.in_volumes.now A.in_ends.now A.in_lengths.now A.in_outline.now A.room refl))

pub returns-in-Crack : goal.returns-in-Crack
returns-in-Crack c = let A = c.args in job_fits (mesh_at A.k A.in_points.now A.in_roots.now A.in_corners.now A.in_volumes.now A.in_ends.now A.in_lengths.now A.in_outline.now) A.room A.job (Crack _) A.list.now c.in-Crack.is (room_test A.k A.in_points.now A.in_roots.now A.in_corners.now A.in_volumes.now A.in_ends.now A.in_lengths.now A.in_outline.now A.room refl)
