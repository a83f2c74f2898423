-- `float::range::not_below_zero` meets its contract. Assumes nothing.
use mathlib.Core.Path.{refl}
use lib.Ieee.{of_bits}
use Rattle.float.specs.Ranges.{not_below0?}
use Rattle.float.proofs.range.not_below_zero.Goals as goal

-- `float::range::not_below_zero` meets its contract. Assumes nothing.
pub returns : goal.returns
unfolding of_bits not_below0?
returns c = refl
