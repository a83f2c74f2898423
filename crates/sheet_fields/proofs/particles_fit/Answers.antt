-- `sheet_fields::particles_fit` meets its contract. Assumes nothing.
use mathlib.Core.Path.{sym, ◌∙◌}
use Rattle.sheet.specs.Sheet.{fit3}
use Rattle.sheet_fields.proofs.particles_fit.Goals as goal

pub returns-then-whole_fit-2 : goal.returns-then-whole_fit-2
unfolding fit3
returns-then-whole_fit-2 c = let e1 = sym c.whole_fit.ensures ∙ c.if-whole_fit.true in let e2 = sym c.whole_fit-then-whole_fit.ensures ∙ c.if-whole_fit-2.true in c.below.ensures ∙ rw (e1, e2)

pub returns-else-whole_fit-2 : goal.returns-else-whole_fit-2
unfolding fit3
returns-else-whole_fit-2 c = let e1 = sym c.whole_fit.ensures ∙ c.if-whole_fit.true in let e2 = sym c.whole_fit-then-whole_fit.ensures ∙ c.if-whole_fit-2.false in rw (e1, e2)

pub returns-else-whole_fit : goal.returns-else-whole_fit
unfolding fit3
returns-else-whole_fit c = let e1 = sym c.whole_fit.ensures ∙ c.if-whole_fit.false in rw e1
