-- `readings::reading::pieces` meets its contract: the faults of the mesh, or its pieces. Assumes nothing.
use mathlib.Core.Path.{refl, sym, ◌∙◌}
use Rattle.mesh.proofs.Refused.{refused_some}
use Rattle.mesh_tables.proofs.Checked.{accepted}
use Rattle.readings.proofs.Refusing.{answer_handed, pieces_refuses, pieces_answers}
use Rattle.readings.proofs.reading.pieces.Goals as goal

pub returns-in_err-judge : goal.returns-in_err-judge
returns-in_err-judge c = answer_handed _ _ c.from_residual.ensures.1 ∙ pieces_refuses _ _ c.in_err-judge.ensures (refused_some _)

pub count_pieces-requires : goal.count_pieces-requires
count_pieces-requires c = accepted _ (sym c.in_ok-judge.ensures)

pub returns : goal.returns
returns c = pieces_answers _ _ _ c.in_ok-judge.ensures refl c.count_pieces.ensures
