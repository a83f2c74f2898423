-- `split_plan::rest_point` meets its contract. The two cells are read. Assumes nothing.
use mathlib.Core.Path.{refl}
use Rattle.columns.specs.Block.{cell}
use Rattle.split_plan.proofs.rest_point.Goals as goal

pub returns : goal.returns
unfolding cell
returns c = refl
