-- `marks::particles::mark_three` meets its contract. All three are marked, or none. Assumes nothing.
use Rattle.marks.proofs.MarkLaws.{three_near, three_far}
use mathlib.Core.Path.{sym, ◌∙◌}
use borrow.Author.Rules.{rules}
use Rattle.marks.proofs.particles.mark_three.Goals as goal

pub returns-then-one_near : goal.returns-then-one_near
returns-then-one_near c = three_near _ _ _ _ _ _ _ _ (sym c.one_near.ensures ∙ c.if-one_near.true) c.mark.auto.marks c.mark-then-one_near.auto.marks c.mark-then-one_near-2.auto.marks c.mark.ensures c.mark-then-one_near.ensures c.mark-then-one_near-2.ensures

pub returns-else-one_near : goal.returns-else-one_near
returns-else-one_near c = three_far _ _ _ _ _ (sym c.one_near.ensures ∙ c.if-one_near.false)
