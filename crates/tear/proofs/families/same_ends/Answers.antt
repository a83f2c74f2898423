-- `tear::families::same_ends` meets its contract: one test behind the other. Assumes nothing.
use Rattle.tear.proofs.FamilyLaws.{same_first, same_none}
use Rattle.tear.proofs.families.same_ends.Goals as goal

-- `tear::families::same_ends` meets its contract: one test behind the other. Assumes nothing.
pub returns-then-a-x : goal.returns-then-a-x
returns-then-a-x c = let A = c.args in same_first A.x A.y A.a A.b c.if-a-x.true

pub returns : goal.returns
returns c = let A = c.args in same_none A.x A.y A.a A.b c.if-a-x.false
