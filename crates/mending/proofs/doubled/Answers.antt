-- `mending::doubled` meets its contract. Assumes nothing.
use mathlib.Core.Path.{sym, ◌∙◌}
use borrow.Author.Tests.{eq-eqb, ne_eqb}
use Rattle.mending.specs.Work.{double_code}
use Rattle.mending.proofs.doubled.Goals as goal

pub returns-then-earlier : goal.returns-then-earlier
unfolding double_code
returns-then-earlier c = let e = sym c.earlier.ensures ∙ c.if-earlier.true in rw (eq-eqb _ _ c.if-code-eq0.true, e)

pub returns-else-earlier : goal.returns-else-earlier
unfolding double_code
returns-else-earlier c = let e = sym c.earlier.ensures ∙ c.if-earlier.false in rw (eq-eqb _ _ c.if-code-eq0.true, e)

pub returns-else-code-eq0 : goal.returns-else-code-eq0
unfolding double_code
returns-else-code-eq0 c = rw (ne_eqb _ _ c.if-code-eq0.false)
