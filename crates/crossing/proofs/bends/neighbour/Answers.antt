use Rattle.crossing.proofs.BendLaws.{neighbour_none, neighbour_w, neighbour_far}
use borrow.Author.Rules.{rules}
use Rattle.crossing.proofs.bends.neighbour.Goals as goal

-- src/bends.rt:29:13
pub returns-then-x-w : goal.returns-then-x-w
returns-then-x-w c = neighbour_far _ _ _ _ _ c.strap_at.ensures c.if-strap_at.true _ c.far_end-x.ensures c.if-x-w.true

-- src/bends.rt:22:1
pub returns-else-x-w : goal.returns-else-x-w
returns-else-x-w c = neighbour_w _ _ _ _ _ c.strap_at.ensures c.if-strap_at.true _ c.far_end-x.ensures c.if-x-w.false

-- src/bends.rt:22:1
pub returns-else-strap_at : goal.returns-else-strap_at
returns-else-strap_at c = neighbour_none _ _ _ _ _ c.strap_at.ensures c.if-strap_at.false
