-- `outline::corner` meets its contract. Assumes nothing.
use Rattle.outline_tables.proofs.Adding.{corner_last}
use borrow.Author.Tests.{eq-eqb, ne_eqb}
use Rattle.outline_tables.proofs.corner.Goals as goal

-- `outline::corner` meets its contract. Assumes nothing.
pub returns-then-a-x : goal.returns-then-a-x
returns-then-a-x c = rw (eq-eqb _ _ c.if-a-x.true)

pub returns-then-b-x : goal.returns-then-b-x
returns-then-b-x c = rw (ne_eqb _ _ c.if-a-x.false, eq-eqb _ _ c.if-b-x.true)

pub returns : goal.returns
returns c = let a = c.args in corner_last a.a a.b a.c a.x (ne_eqb _ _ c.if-a-x.false) (ne_eqb _ _ c.if-b-x.false)
