-- `mesh_calls::checks::judge_arguments` meets its contract: the fault of the mesh, the numbers beside it, and its arguments. Assumes nothing.
use Rattle.mesh.specs.At.{mesh_at}
use Rattle.arguments.proofs.Judged.{beside_stays, beside_judged}
use mathlib.Core.Path.{◌∙◌}
use Rattle.mesh.proofs.Refused.{refused_some, refusal_handed}
use Rattle.mesh_calls.proofs.checks.judge_arguments.Goals as goal

pub returns-in_err-with_numbers : goal.returns-in_err-with_numbers
returns-in_err-with_numbers c = let A = c.args in refusal_handed _ _ c.from_residual.ensures.1 ∙ beside_stays (mesh_at A.k A.in_points.now A.in_roots.now A.in_corners.now A.in_volumes.now A.in_ends.now A.in_lengths.now A.in_outline.now) _ _ _ _ c.in_err-with_numbers.ensures c.judge_sized-fault.ensures c.numbers_fit.ensures _ (refused_some c.in_err-with_numbers.field-0.0)

pub returns : goal.returns
returns c = let A = c.args in beside_judged (mesh_at A.k A.in_points.now A.in_roots.now A.in_corners.now A.in_volumes.now A.in_ends.now A.in_lengths.now A.in_outline.now) _ _ _ _ c.in_ok-with_numbers.ensures c.judge_sized-fault.ensures c.numbers_fit.ensures _ _ _ c.ensure.ensures c.arguments_fit-ok.ensures
