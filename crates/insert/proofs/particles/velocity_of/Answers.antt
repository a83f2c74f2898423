-- `insert::particles::velocity_of` meets its contract. Assumes nothing.
use mathlib.Core.Path.{refl}
use Rattle.columns.specs.Block.{cell}
use borrow.Author.Rules.{rules}
use Rattle.insert.proofs.particles.velocity_of.Goals as goal

-- the two cells
pub returns : goal.returns
unfolding cell
returns c = refl
