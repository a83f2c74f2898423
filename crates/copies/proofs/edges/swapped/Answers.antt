-- `copies::edges::swapped` meets its contract: by cases of the test. Assumes nothing.
use borrow.Author.Tests.{eq-eqb, ne_eqb}
use Rattle.copies.proofs.edges.swapped.Goals as goal

-- `copies::edges::swapped` meets its contract: by cases of the test. Assumes nothing.
pub returns-then-x-v : goal.returns-then-x-v
returns-then-x-v c = rw (eq-eqb _ _ c.if-x-v.true)

pub returns : goal.returns
returns c = rw (ne_eqb _ _ c.if-x-v.false)
