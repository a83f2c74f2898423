-- `row_differences::reading` meets its contract: a row where the columns have it. Assumes nothing.
use borrow.Author.Tests.{lt-ltb, le-ltb}
use native.Mathlib.Omega.{arith}
use Rattle.row_differences.proofs.reading.Goals as goal

pub returns-then-k-a : goal.returns-then-k-a
returns-then-k-a c = rw (lt-ltb _ _ c.if-k-a.true)

pub returns : goal.returns
returns c = rw (le-ltb _ _ c.if-k-a.false)
