-- `float::larger::larger` meets its contract. Assumes nothing.
use Rattle.float.specs.Numbers.{max_of}
use Rattle.float.proofs.larger.larger.Goals as goal

-- `float::larger::larger` meets its contract. Assumes nothing.
pub returns-then-a-b : goal.returns-then-a-b
unfolding max_of
returns-then-a-b c = rw c.if-a-b.true

pub returns-else-a-b : goal.returns-else-a-b
unfolding max_of
returns-else-a-b c = rw c.if-a-b.false
