-- `mending::one` meets its contract. Assumes nothing.
use native.Mathlib.Omega.{arith}
use borrow.Author.Tests.{eq-eqb, ne_eqb}
use Rattle.mending.specs.Work.{one_of}
use Rattle.mending.proofs.one.Goals as goal

-- `mending::one` meets its contract. Assumes nothing.
pub returns-then-code-eq0 : goal.returns-then-code-eq0
unfolding one_of
returns-then-code-eq0 c = (rw (eq-eqb _ _ c.if-code-eq0.true), omega arith)

pub returns-else-code-eq0 : goal.returns-else-code-eq0
unfolding one_of
returns-else-code-eq0 c = (rw (ne_eqb _ _ c.if-code-eq0.false), omega arith)
