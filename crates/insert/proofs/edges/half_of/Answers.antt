use Rattle.model.specs.Cut.{half_of}
use lib.Ieee.{of_bits}
use mathlib.Core.Path.{refl}
use Rattle.insert.proofs.edges.half_of.Goals as goal

-- src/edges.rt:12:1
pub returns : goal.returns
unfolding of_bits half_of
returns c = refl
