use Rattle.insert.proofs.ShareLaws.{told_none, told_first, told_second}
use borrow.Author.Rules.{rules}
use Rattle.insert.proofs.shares.strap_at.Goals as goal

-- src/shares.rt:16:9
pub returns-then-ends-c-ne1 : goal.returns-then-ends-c-ne1
returns-then-ends-c-ne1 c = told_none _ _ _ c.if-ends-c-ne1.true

-- src/shares.rt:19:9
pub returns-then-ends-i : goal.returns-then-ends-i
returns-then-ends-i c = told_first _ _ _ c.if-ends-c-ne1.false c.if-ends-i.true

-- src/shares.rt:10:1
pub returns : goal.returns
returns c = told_second _ _ _ c.if-ends-c-ne1.false c.if-ends-i.false
