-- `marks::sides::side_of_sign` meets its contract. Assumes nothing.
use Rattle.lists.specs.Lists.{pick}
use mathlib.Core.Path.{sym, ◌∙◌, ap}
use mathlib.Core.Bool.{Bool}
use borrow.Author.Rules.{rules}
use Rattle.marks.proofs.sides.side_of_sign.Goals as goal

pub returns-then-opposed : goal.returns-then-opposed
returns-then-opposed c = ap (λ (b : Bool). pick b 1 0) (sym c.if-opposed.true ∙ c.opposed.ensures)

pub returns-else-opposed : goal.returns-else-opposed
returns-else-opposed c = ap (λ (b : Bool). pick b 1 0) (sym c.if-opposed.false ∙ c.opposed.ensures)
