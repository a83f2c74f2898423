-- `outline::chains::holds_before` meets its contract. Assumes nothing.
use borrow.Author.Tests.{lt-ltb, le-ltb}
use borrow.Author.Rules.{rules}
use Rattle.outline_tables.proofs.chains.holds_before.Goals as goal

pub returns-then-j-t : goal.returns-then-j-t
returns-then-j-t c = let A = c.args in rw (lt-ltb A.j A.t (search rules)) c.holds_side.ensures

pub returns : goal.returns
returns c = let A = c.args in rw (le-ltb A.j A.t (search rules))
