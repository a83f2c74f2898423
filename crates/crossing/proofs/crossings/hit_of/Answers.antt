use Rattle.crossing.proofs.CrossingLaws.{hit_none, hit_strap}
use borrow.Author.Rules.{rules}
use Rattle.crossing.proofs.crossings.hit_of.Goals as goal

-- src/crossings.rt:16:9
pub returns-then-ends-c-ne1 : goal.returns-then-ends-c-ne1
returns-then-ends-c-ne1 c = hit_none _ _ _ _ _ c.if-ends-c-ne1.true

-- src/crossings.rt:10:1
pub returns : goal.returns
returns c = hit_strap _ _ _ _ _ _ _ _ c.if-ends-c-ne1.false c.place-a.ensures c.place-b.ensures c.blade_hit.ensures
