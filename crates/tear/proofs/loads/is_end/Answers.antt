-- `tear::loads::is_end` meets its contract: by its two tests. Assumes nothing.
use Rattle.tear.proofs.LoadLaws.{end_first, end_second}
use Rattle.tear.proofs.loads.is_end.Goals as goal

-- `tear::loads::is_end` meets its contract: by its two tests. Assumes nothing.
pub returns-then-a-x : goal.returns-then-a-x
returns-then-a-x c = end_first _ _ _ c.if-a-x.true

pub returns : goal.returns
returns c = end_second _ _ _ c.if-a-x.false
