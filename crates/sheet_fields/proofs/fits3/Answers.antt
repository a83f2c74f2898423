-- `sheet_fields::fits3` meets its contract. Assumes nothing.
use mathlib.Core.Path.{sym, ◌∙◌}
use Rattle.sheet.specs.Sheet.{fit3}
use Rattle.sheet_fields.proofs.fits3.Goals as goal

pub returns-then-below-2 : goal.returns-then-below-2
unfolding fit3
returns-then-below-2 c = let e1 = sym c.below.ensures ∙ c.if-below.true in let e2 = sym c.below-then-below.ensures ∙ c.if-below-2.true in c.below-then-below-2.ensures ∙ rw (e1, e2)

pub returns-else-below-2 : goal.returns-else-below-2
unfolding fit3
returns-else-below-2 c = let e1 = sym c.below.ensures ∙ c.if-below.true in let e2 = sym c.below-then-below.ensures ∙ c.if-below-2.false in rw (e1, e2)

pub returns-else-below : goal.returns-else-below
unfolding fit3
returns-else-below c = let e1 = sym c.below.ensures ∙ c.if-below.false in rw e1
