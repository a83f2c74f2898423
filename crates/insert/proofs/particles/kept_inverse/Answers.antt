use lib.Ieee.{of_bits}
use mathlib.Core.Path.{◌∙◌}
use Rattle.insert.proofs.PlanLaws.{yes_pick, no_pick}
use borrow.Author.Rules.{rules}
use Rattle.insert.proofs.particles.kept_inverse.Goals as goal

-- src/particles.rt:44:9
pub returns-then-inverse : goal.returns-then-inverse
unfolding of_bits
returns-then-inverse c = c.inv.ensures ∙ yes_pick _ _ _ c.if-inverse.true

-- src/particles.rt:40:1
pub returns : goal.returns
unfolding of_bits
returns c = no_pick _ _ _ c.if-inverse.false
