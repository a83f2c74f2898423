-- `readings::grouping::opens_without_confetti` meets its contract: the faults of the mesh, or the walk. Assumes nothing.
use mathlib.Core.Path.{sym, ◌∙◌}
use Rattle.mesh.specs.Given.{given}
use Rattle.mesh.proofs.Refused.{refused_some}
use Rattle.arguments.proofs.Judged.{undecided}
use Rattle.readings.proofs.Refusing.{answer_handed}
use Rattle.readings.proofs.Grouped.{opens_refused}
use Rattle.readings.proofs.grouping.opens_without_confetti.Goals as goal

pub returns-in_err-judge : goal.returns-in_err-judge
returns-in_err-judge c = let A = c.args in
    let G = given A.points.now A.roots.now A.corners.now A.volumes.now A.ends.now A.lengths.now A.outline.now in
    answer_handed _ _ c.from_residual.ensures.1 ∙ opens_refused G A.v A.sides.now A.minimum _ (undecided G _ _ c.in_err-judge.ensures (refused_some _)) (refused_some _)

pub mesh_opens-requires : goal.mesh_opens-requires
mesh_opens-requires c = sym c.in_ok-judge.ensures
