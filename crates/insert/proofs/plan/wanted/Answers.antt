use lib.Ieee.{of_bits, le}
use Rattle.float.specs.Numbers.{minus, one}
use Rattle.insert.proofs.PlanLaws.{either_first, either_both, either_none}
use Rattle.insert.proofs.plan.wanted.Goals as goal

-- src/plan.rt:47:9
pub returns-then-inverse : goal.returns-then-inverse
unfolding of_bits
returns-then-inverse c = either_first _ (le c.args.f c.args.t) (le c.args.t (minus one c.args.f)) c.if-inverse.true

-- src/plan.rt:50:9
pub returns-then-f-t : goal.returns-then-f-t
unfolding of_bits
returns-then-f-t c = either_both _ _ _ c.if-inverse.false c.if-f-t.true

-- src/plan.rt:43:1
pub returns : goal.returns
unfolding of_bits
returns c = either_none _ _ (le c.args.t (minus one c.args.f)) c.if-inverse.false c.if-f-t.false
