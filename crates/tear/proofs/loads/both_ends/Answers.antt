-- `tear::loads::both_ends` meets its contract: one test behind the other. Assumes nothing.
use mathlib.Core.Path.{sym, ◌∙◌}
use Rattle.elements.proofs.Held.{both_true, both_false}
use borrow.Author.Rules.{rules}
use Rattle.tear.proofs.loads.both_ends.Goals as goal

pub returns-then-is_end : goal.returns-then-is_end
returns-then-is_end c = both_true (sym c.is_end.ensures ∙ c.if-is_end.true) c.is_end-then-is_end.ensures

pub returns : goal.returns
returns c = both_false _ (sym c.is_end.ensures ∙ c.if-is_end.false)
