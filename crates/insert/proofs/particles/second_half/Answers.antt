use lib.Ieee.{of_bits}
use mathlib.Core.Path.{refl}
use Rattle.insert.proofs.particles.second_half.Goals as goal

-- src/particles.rt:69:1
pub returns : goal.returns
unfolding of_bits
returns c = refl
