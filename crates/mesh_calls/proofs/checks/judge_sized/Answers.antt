-- `mesh_calls::checks::judge_sized` meets its contract: the refusals 2 to 4, and then that of the edition. Assumes nothing.
use mathlib.Core.Path.{refl, ◌∙◌}
use Rattle.mesh.proofs.Refused.{refused_some, refusal_handed}
use Rattle.mesh_calls.proofs.Editions.{refusal_stays, refusal_next}
use Rattle.mesh_calls.proofs.checks.judge_sized.Goals as goal

pub returns-in_err-judge_arguments : goal.returns-in_err-judge_arguments
returns-in_err-judge_arguments c = refusal_handed _ _ c.from_residual.ensures.1 ∙ refusal_stays _ _ _ c.in_err-judge_arguments.ensures (refused_some c.in_err-judge_arguments.field-0.0)

pub returns : goal.returns
returns c = refusal_next _ _ _ _ c.in_ok-judge_arguments.ensures refl c.edition_refusal.ensures
