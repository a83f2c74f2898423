-- `outline::both_same` meets its contract. Assumes nothing.
use borrow.Author.Tests.{eq-eqb, ne_eqb}
use Rattle.outline_tables.proofs.both_same.Goals as goal

-- `outline::both_same` meets its contract. Assumes nothing.
pub returns-then-x-u : goal.returns-then-x-u
returns-then-x-u c = rw (eq-eqb _ _ c.if-x-u.true)

pub returns-else-x-u : goal.returns-else-x-u
returns-else-x-u c = rw (ne_eqb _ _ c.if-x-u.false)
