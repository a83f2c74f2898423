-- `sheet::pair_ok` meets its contract. Assumes nothing.
use borrow.Author.Tests.{lt-ltb, le-ltb}
use Rattle.sheet.specs.Sheet.{pair_ok_of}
use Rattle.sheet.proofs.pair_ok.Goals as goal

-- `sheet::pair_ok` meets its contract. Assumes nothing.
pub returns-then-b-p : goal.returns-then-b-p
unfolding pair_ok_of
returns-then-b-p c = rw (lt-ltb _ _ c.if-a-p.true, lt-ltb _ _ c.if-b-p.true)

pub returns-else-b-p : goal.returns-else-b-p
unfolding pair_ok_of
returns-else-b-p c = rw (lt-ltb _ _ c.if-a-p.true, le-ltb _ _ c.if-b-p.false)

pub returns-else-a-p : goal.returns-else-a-p
unfolding pair_ok_of
returns-else-a-p c = rw (le-ltb _ _ c.if-a-p.false)
