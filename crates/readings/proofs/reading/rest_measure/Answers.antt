-- `readings::reading::rest_measure` meets its contract: the faults of the mesh, or its measure. Assumes nothing.
use mathlib.Core.Path.{refl, sym, ◌∙◌}
use Rattle.mesh.proofs.Refused.{refused_some}
use Rattle.mesh_tables.proofs.Checked.{accepted}
use Rattle.readings.proofs.Refusing.{answer_handed, measure_refuses, measure_answers}
use Rattle.readings.proofs.reading.rest_measure.Goals as goal

pub returns-in_err-judge : goal.returns-in_err-judge
returns-in_err-judge c = answer_handed _ _ c.from_residual.ensures.1 ∙ measure_refuses _ _ c.in_err-judge.ensures (refused_some _)

pub whole_measure-requires : goal.whole_measure-requires
whole_measure-requires c = accepted _ (sym c.in_ok-judge.ensures)

pub returns : goal.returns
returns c = measure_answers _ _ _ c.in_ok-judge.ensures refl c.whole_measure.ensures
