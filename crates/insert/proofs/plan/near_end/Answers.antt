use lib.Ieee.{of_bits}
use Rattle.insert.proofs.PlanLaws.{yes_pick, no_pick}
use Rattle.insert.proofs.plan.near_end.Goals as goal

-- src/plan.rt:36:1
pub returns-then-t : goal.returns-then-t
unfolding of_bits
returns-then-t c = yes_pick _ _ _ c.if-t.true

-- src/plan.rt:36:1
pub returns-else-t : goal.returns-else-t
unfolding of_bits
returns-else-t c = no_pick _ _ _ c.if-t.false
