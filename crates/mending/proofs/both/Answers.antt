-- `mending::both` meets its contract. Assumes nothing.
use borrow.Author.Tests.{eq-eqb, ne_eqb}
use Rattle.mending.proofs.both.Goals as goal

-- `mending::both` meets its contract. Assumes nothing.
pub returns-then-a-x : goal.returns-then-a-x
returns-then-a-x c = rw (eq-eqb _ _ c.if-a-x.true)

pub returns-else-a-x : goal.returns-else-a-x
returns-else-a-x c = rw (ne_eqb _ _ c.if-a-x.false)
