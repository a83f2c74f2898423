-- `tear::families::joins` meets its contract: one way round, or the other. Assumes nothing.
use Rattle.tear.proofs.FamilyLaws.{either_first, either_second}
use borrow.Author.Rules.{rules}
use Rattle.tear.proofs.families.joins.Goals as goal

pub returns-then-same_ends : goal.returns-then-same_ends
returns-then-same_ends c = either_first _ _ _ c.same_ends.ensures c.if-same_ends.true

pub returns : goal.returns
returns c = either_second _ _ _ _ c.same_ends.ensures c.if-same_ends.false c.same_ends-2.ensures
