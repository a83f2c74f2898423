-- `copies::edges::far_end` meets its contract: by cases of the first end. Assumes nothing.
use borrow.Author.Tests.{eq-eqb, ne_eqb}
use Rattle.copies.proofs.edges.far_end.Goals as goal

-- `copies::edges::far_end` meets its contract: by cases of the first end. Assumes nothing.
pub returns-then-row-v : goal.returns-then-row-v
returns-then-row-v c = rw (eq-eqb _ _ c.if-row-v.true)

pub returns : goal.returns
returns c = rw (ne_eqb _ _ c.if-row-v.false)
