-- `sheet_rows::two_fit` meets its contract. Assumes nothing.
use mathlib.Core.Path.{sym}
use borrow.Author.Tests.{le-leb, lt-leb}
use Rattle.sheet_rows.proofs.two_fit.Goals as goal

-- `sheet_rows::two_fit` meets its contract. Assumes nothing.
pub returns-then-n-a : goal.returns-then-n-a
returns-then-n-a c = sym (rw (le-leb _ _ c.if-n-a.true))

pub returns-else-n-a : goal.returns-else-n-a
returns-else-n-a c = sym (rw (lt-leb _ _ c.if-n-a.false))
