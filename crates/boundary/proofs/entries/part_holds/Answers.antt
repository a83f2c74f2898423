-- `boundary::entries::part_holds` meets its contract: one test behind the other. Assumes nothing.
use Rattle.elements.proofs.Held.{both_true, both_false}
use mathlib.Core.Path.{sym, ◌∙◌}
use borrow.Author.Rules.{rules}
use Rattle.boundary.proofs.entries.part_holds.Goals as goal

pub returns-then-holds : goal.returns-then-holds
returns-then-holds c = both_true (sym c.holds.ensures ∙ c.if-holds.true) c.holds-then-holds.ensures

pub returns : goal.returns
returns c = both_false _ (sym c.holds.ensures ∙ c.if-holds.false)
