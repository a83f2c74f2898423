use Rattle.crossing.proofs.BendLaws.{far_first, far_second}
use borrow.Author.Rules.{rules}
use Rattle.crossing.proofs.bends.far_end.Goals as goal

-- src/bends.rt:16:9
pub returns-then-ends-i : goal.returns-then-ends-i
returns-then-ends-i c = far_second _ _ _ c.if-ends-i.true

-- src/bends.rt:10:1
pub returns : goal.returns
returns c = far_first _ _ _ c.if-ends-i.false
