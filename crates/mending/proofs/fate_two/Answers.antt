-- `mending::fate_two` meets its contract. Assumes nothing.
use borrow.Author.Tests.{lt-ltb, le-ltb, eq-eqb, ne_eqb}
use Rattle.lists.specs.Lists.{all}
use Rattle.mending.specs.Mending.{fate_of, different}
use Rattle.mending.specs.Work.{row_code}
use Rattle.mending.proofs.fate_two.Goals as goal

-- `mending::fate_two` meets its contract. Assumes nothing.
pub returns-then-p-a : goal.returns-then-p-a
unfolding row_code fate_of all different
returns-then-p-a c = rw (le-ltb _ _ c.if-p-a.true)

pub returns-then-p-b : goal.returns-then-p-b
unfolding row_code fate_of all different
returns-then-p-b c = rw (lt-ltb _ _ c.if-p-a.false, le-ltb _ _ c.if-p-b.true)

pub returns-then-b-a : goal.returns-then-b-a
unfolding row_code fate_of all different
returns-then-b-a c = rw (lt-ltb _ _ c.if-p-a.false, lt-ltb _ _ c.if-p-b.false, eq-eqb _ _ c.if-b-a.true)

pub returns-else-b-a : goal.returns-else-b-a
unfolding row_code fate_of all different
returns-else-b-a c = rw (lt-ltb _ _ c.if-p-a.false, lt-ltb _ _ c.if-p-b.false, ne_eqb _ _ c.if-b-a.false)
