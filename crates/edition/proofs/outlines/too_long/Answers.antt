-- `edition::outlines::too_long` meets its contract. Assumes nothing.
use borrow.Author.Tests.{lt-ltb, le-ltb}
use Rattle.edition.proofs.outlines.too_long.Goals as goal

-- `edition::outlines::too_long` meets its contract. Assumes nothing.
pub returns-then-n-gt2048 : goal.returns-then-n-gt2048
returns-then-n-gt2048 c = rw (lt-ltb _ _ c.if-n-gt2048.true)

pub returns : goal.returns
returns c = rw (le-ltb _ _ c.if-n-gt2048.false)
