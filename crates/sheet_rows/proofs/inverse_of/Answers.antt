-- `sheet_rows::inverse_of` meets its contract. Assumes nothing.
use mathlib.Core.Path.{sym, ap}
use mathlib.Core.Bool.{Bool}
use borrow.Author.Tests.{eq-eqb, ne_eqb}
use Rattle.lists.specs.Lists.{pick}
use Rattle.float.specs.Numbers.{zero32, one}
use lib.Ieee.{of_bits}
use Rattle.sheet.specs.Read.{the_inverse_of}
use Rattle.sheet_rows.proofs.inverse_of.Goals as goal

-- `sheet_rows::inverse_of` meets its contract. Assumes nothing.
pub returns-then-pinned-eq1 : goal.returns-then-pinned-eq1
unfolding of_bits the_inverse_of
returns-then-pinned-eq1 c = sym (ap (λ (t : Bool). pick t zero32 one) (eq-eqb _ _ c.if-pinned-eq1.true))

pub returns-else-pinned-eq1 : goal.returns-else-pinned-eq1
unfolding of_bits the_inverse_of
returns-else-pinned-eq1 c = sym (ap (λ (t : Bool). pick t zero32 one) (ne_eqb _ _ c.if-pinned-eq1.false))
