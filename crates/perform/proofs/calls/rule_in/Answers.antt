-- `perform::calls::rule_in` meets its contract. Assumes nothing.
use mathlib.Core.Path.{refl, sym}
use borrow.Author.Tests.{eq-eqb, ne_eqb}
use Rattle.perform.proofs.calls.rule_in.Goals as goal

-- `perform::calls::rule_in` meets its contract. Assumes nothing.
pub returns-then-edition-eq2 : goal.returns-then-edition-eq2
returns-then-edition-eq2 c = sym (rw (eq-eqb _ 2 c.if-edition-eq2.true) refl)

pub returns : goal.returns
returns c = sym (rw (ne_eqb _ 2 c.if-edition-eq2.false) refl)
