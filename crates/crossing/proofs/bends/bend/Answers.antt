use native.Mathlib.Omega.{arith}
use Rattle.crossing.proofs.BendLaws.{bend_strap, bend_along, bend_against, bend_not}
use borrow.Author.Rules.{rules}
use Rattle.crossing.proofs.bends.bend.Goals as goal

-- src/bends.rt:67:9
pub returns-then-ends-c-eq1 : goal.returns-then-ends-c-eq1
returns-then-ends-c-eq1 c = bend_strap _ _ _ _ c.if-ends-c-eq1.true

-- src/bends.rt:72:9
pub returns-then-only : goal.returns-then-only
returns-then-only c = bend_along _ _ _ _ c.if-ends-c-eq1.false _ _ c.only.ensures c.if-only.true c.only-then-only.ensures

-- src/bends.rt:75:9
pub returns-then-only-2 : goal.returns-then-only-2
returns-then-only-2 c = bend_against _ _ _ _ c.if-ends-c-eq1.false _ _ _ c.only.ensures c.if-only.false c.only-2.ensures c.if-only-2.true c.only-then-only-2.ensures

-- src/bends.rt:61:1
pub returns : goal.returns
returns c = bend_not _ _ _ _ c.if-ends-c-eq1.false _ _ c.only.ensures c.if-only.false c.only-2.ensures c.if-only-2.false
