-- `sheet_fields::same3` meets its contract. Assumes nothing.
use borrow.Author.Tests.{eq-eqb, ne_eqb}
use Rattle.sheet.specs.Sheet.{even3}
use Rattle.sheet_fields.proofs.same3.Goals as goal

-- `sheet_fields::same3` meets its contract. Assumes nothing.
pub returns-then-b-a : goal.returns-then-b-a
unfolding even3
returns-then-b-a c = rw (eq-eqb _ _ c.if-b-a.true)

pub returns-else-b-a : goal.returns-else-b-a
unfolding even3
returns-else-b-a c = rw (ne_eqb _ _ c.if-b-a.false)
