-- `sheet::exceeds` meets its contract. Assumes nothing.
use borrow.Author.Tests.{lt-ltb, le-ltb}
use Rattle.sheet.specs.Sheet.{above}
use Rattle.sheet.proofs.exceeds.Goals as goal

-- `sheet::exceeds` meets its contract. Assumes nothing.
pub returns-then-limits-c : goal.returns-then-limits-c
unfolding above
returns-then-limits-c c = rw (lt-ltb _ _ c.if-limits-c.true)

pub returns-then-limits-c-2 : goal.returns-then-limits-c-2
unfolding above
returns-then-limits-c-2 c = rw (le-ltb _ _ c.if-limits-c.false, lt-ltb _ _ c.if-limits-c-2.true)

pub returns-then-limits-c-3 : goal.returns-then-limits-c-3
unfolding above
returns-then-limits-c-3 c = rw (le-ltb _ _ c.if-limits-c.false, le-ltb _ _ c.if-limits-c-2.false, lt-ltb _ _ c.if-limits-c-3.true)

pub returns : goal.returns
unfolding above
returns c = rw (le-ltb _ _ c.if-limits-c.false, le-ltb _ _ c.if-limits-c-2.false, le-ltb _ _ c.if-limits-c-3.false)
