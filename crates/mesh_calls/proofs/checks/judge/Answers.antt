-- `mesh_calls::checks::judge` meets its contract: the sizes, and then the rest. Assumes nothing.
use mathlib.Core.Path.{sym, ◌∙◌}
use borrow.Author.Tests.{not-false}
use Rattle.mesh.specs.Given.{given, mesh_of, as_rooms}
use Rattle.judge.proofs.Joined.{sizes_told}
use Rattle.judge.proofs.Accepted.{input_fits}
use Rattle.mesh_calls.proofs.Editions.{job_unsized, job_sized}
use borrow.Author.Rules.{rules}
use mathlib.Core.Path.{ap}
use mathlib.Core.Bool.{not}
use Rattle.mesh_calls.proofs.checks.judge.Goals as goal

pub returns-then-not-fit : goal.returns-then-not-fit
returns-then-not-fit c = let A = c.args in job_unsized A.job A.list.now (mesh_of (given A.in_points.now A.in_roots.now A.in_corners.now A.in_volumes.now A.in_ends.now A.in_lengths.now A.in_outline.now)) (as_rooms A.room) _ _ c.sizes_fit-fit.ensures (ap not c.if-not-fit.true)

pub judge_sized-requires : goal.judge_sized-requires
judge_sized-requires c = let A = c.args in input_fits (given A.in_points.now A.in_roots.now A.in_corners.now A.in_volumes.now A.in_ends.now A.in_lengths.now A.in_outline.now) (sizes_told _ _ _ _ _ _ _ (sym c.sizes_fit-fit.ensures ∙ not-false _ (ap not c.if-not-fit.false)))

pub returns : goal.returns
unfolding mesh_of
returns c = let A = c.args in job_sized A.job A.list.now (mesh_of (given A.in_points.now A.in_roots.now A.in_corners.now A.in_volumes.now A.in_ends.now A.in_lengths.now A.in_outline.now)) (as_rooms A.room) _ _ c.sizes_fit-fit.ensures _ (ap not c.if-not-fit.false) c.judge_sized.ensures
