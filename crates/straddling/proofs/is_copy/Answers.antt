-- `straddling::is_copy` meets its contract: by cases of its tests. Assumes nothing.
use Rattle.straddling.proofs.StraddlerLaws.{copy_self, copy_low, copy_none, copy_within}
use borrow.Author.Rules.{rules}
use Rattle.straddling.proofs.is_copy.Goals as goal

-- `straddling::is_copy` meets its contract: by cases of its tests. Assumes nothing.
pub returns-then-w-v : goal.returns-then-w-v
returns-then-w-v c = copy_self _ _ _ _ c.if-w-v.true

pub returns-then-w-before : goal.returns-then-w-before
returns-then-w-before c = copy_low _ _ _ _ c.if-w-v.false c.if-w-before.true

pub returns-then-count-eq0 : goal.returns-then-count-eq0
returns-then-count-eq0 c = copy_none _ _ _ _ c.if-w-v.false c.if-count-eq0.true

pub returns : goal.returns
returns c = copy_within _ _ _ _ c.if-w-v.false c.if-w-before.false
