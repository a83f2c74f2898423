use lib.Ieee.{of_bits}
use mathlib.Core.Path.{refl}
use Rattle.insert.proofs.particles.first_half.Goals as goal

-- src/particles.rt:62:1
pub returns : goal.returns
unfolding of_bits
returns c = refl
