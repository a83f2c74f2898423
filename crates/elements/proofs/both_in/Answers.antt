-- `elements::both_in` meets its contract: one test behind the other. Assumes nothing.
use mathlib.Core.Path.{sym, ◌∙◌}
use Rattle.elements.proofs.Held.{both_true, both_false}
use Rattle.elements.proofs.both_in.Goals as goal

pub returns-then-stands_in : goal.returns-then-stands_in
returns-then-stands_in c = both_true (sym c.stands_in.ensures ∙ c.if-stands_in.true) c.stands_in-then-stands_in.ensures

pub returns : goal.returns
returns c = both_false _ (sym c.stands_in.ensures ∙ c.if-stands_in.false)
