-- `mesh_calls::checks::sides_given` meets its contract: the size of the fan, and the test of its sides. Assumes nothing.
use Rattle.mesh_calls.proofs.Fanned.{sides_told}
use borrow.Author.Rules.{rules}
use Rattle.mesh_calls.proofs.checks.sides_given.Goals as goal

pub returns : goal.returns
returns c = let A = c.args in sides_told A.v A.k A.in_points.now A.in_roots.now A.in_corners.now A.in_volumes.now A.in_ends.now A.in_lengths.now A.in_outline.now A.sides.now _ _ c.fan_count-fan.ensures c.sides_fit.ensures
