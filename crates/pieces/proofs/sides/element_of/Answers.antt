-- `pieces::sides::element_of` meets its contract. Assumes nothing.
use borrow.Author.Rules.{rules}
use Rattle.pieces.proofs.sides.element_of.Goals as goal

-- `pieces::sides::element_of` meets its contract. Assumes nothing.
pub returns-then-k-eq3 : goal.returns-then-k-eq3
returns-then-k-eq3 c = rw c.if-k-eq3.true

pub returns-then-k-eq2 : goal.returns-then-k-eq2
returns-then-k-eq2 c = rw c.if-k-eq2.true
