-- `mending::fate_three` meets its contract. Assumes nothing.
use borrow.Author.Tests.{lt-ltb, le-ltb, eq-eqb, ne_eqb}
use Rattle.lists.specs.Lists.{all}
use Rattle.mending.specs.Mending.{fate_of, different}
use Rattle.mending.specs.Work.{row_code}
use Rattle.mending.proofs.fate_three.Goals as goal

-- `mending::fate_three` meets its contract. Assumes nothing.
pub returns-then-p-a : goal.returns-then-p-a
unfolding row_code fate_of all different
returns-then-p-a c = rw (le-ltb _ _ c.if-p-a.true)

pub returns-then-p-b : goal.returns-then-p-b
unfolding row_code fate_of all different
returns-then-p-b c = rw (lt-ltb _ _ c.if-p-a.false, le-ltb _ _ c.if-p-b.true)

pub returns-then-p-c : goal.returns-then-p-c
unfolding row_code fate_of all different
returns-then-p-c c = rw (lt-ltb _ _ c.if-p-a.false, lt-ltb _ _ c.if-p-b.false, le-ltb _ _ c.if-p-c.true)

pub returns-then-b-a : goal.returns-then-b-a
unfolding row_code fate_of all different
returns-then-b-a c = rw (lt-ltb _ _ c.if-p-a.false, lt-ltb _ _ c.if-p-b.false, lt-ltb _ _ c.if-p-c.false, eq-eqb _ _ c.if-b-a.true)

pub returns-then-c-a : goal.returns-then-c-a
unfolding row_code fate_of all different
returns-then-c-a c =
    rw (lt-ltb _ _ c.if-p-a.false, lt-ltb _ _ c.if-p-b.false, lt-ltb _ _ c.if-p-c.false, ne_eqb _ _ c.if-b-a.false, eq-eqb _ _ c.if-c-a.true)

pub returns-then-c-b : goal.returns-then-c-b
unfolding row_code fate_of all different
returns-then-c-b c =
    rw (lt-ltb _ _ c.if-p-a.false, lt-ltb _ _ c.if-p-b.false, lt-ltb _ _ c.if-p-c.false, ne_eqb _ _ c.if-b-a.false, ne_eqb _ _ c.if-c-a.false, eq-eqb _ _ c.if-c-b.true)

pub returns-else-c-b : goal.returns-else-c-b
unfolding row_code fate_of all different
returns-else-c-b c =
    rw (lt-ltb _ _ c.if-p-a.false, lt-ltb _ _ c.if-p-b.false, lt-ltb _ _ c.if-p-c.false, ne_eqb _ _ c.if-b-a.false, ne_eqb _ _ c.if-c-a.false, ne_eqb _ _ c.if-c-b.false)
