-- `differences::lines::same_four` meets its contract: field by field. Assumes nothing.
use Rattle.differences.proofs.Writing.{four_first, four_second, four_third, four_tell}
use Rattle.differences.proofs.lines.same_four.Goals as goal

-- `differences::lines::same_four` meets its contract: field by field. Assumes nothing.
pub returns-then-a-b : goal.returns-then-a-b
returns-then-a-b c = four_first _ _ _ _ _ _ _ _ c.if-a-b.true

pub returns-then-a-b-2 : goal.returns-then-a-b-2
returns-then-a-b-2 c = four_second _ _ _ _ _ _ _ _ c.if-a-b.false c.if-a-b-2.true

pub returns-then-a-b-3 : goal.returns-then-a-b-3
returns-then-a-b-3 c = four_third _ _ _ _ _ _ _ _ c.if-a-b.false c.if-a-b-2.false c.if-a-b-3.true

pub returns : goal.returns
returns c = four_tell _ _ _ _ _ _ _ _ c.if-a-b.false c.if-a-b-2.false c.if-a-b-3.false
