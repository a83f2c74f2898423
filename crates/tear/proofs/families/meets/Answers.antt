-- `tear::families::meets` meets its contract: the table, or else the edges. Assumes nothing.
use Rattle.tear.proofs.FamilyLaws.{meets_held, meets_joined}
use borrow.Author.Rules.{rules}
use Rattle.tear.proofs.families.meets.Goals as goal

pub returns-then-in_element : goal.returns-then-in_element
returns-then-in_element c = meets_held _ _ _ _ _ _ _ _ _ c.if-in_element.true c.holds_both.ensures

pub returns : goal.returns
returns c = meets_joined _ _ _ _ _ _ _ _ _ c.if-in_element.false c.joined.ensures
