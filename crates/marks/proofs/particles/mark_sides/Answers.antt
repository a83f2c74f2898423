-- `marks::particles::mark_sides` meets its contract. A triangle on one side of the blade marks nothing; else the three sides, one behind the other. Assumes nothing.
use Rattle.marks.proofs.MarkLaws.{sides_met, beside_unmarked}
use Rattle.marks.specs.Marking.{blade_by}
use borrow.Author.Rules.{rules}
use Rattle.marks.proofs.particles.mark_sides.Goals as goal

pub returns-then-beside : goal.returns-then-beside
returns-then-beside c = beside_unmarked _ _ _ _ _ _ _ c.beside.ensures c.if-beside.true

pub returns : goal.returns
returns c = let A = c.args in
    sides_met (blade_by A.rule A.b0 A.b1) A.points.now A.x A.y A.z _ _ _ _ c.mark_pair.auto.marks c.mark_pair-2.auto.marks c.mark_pair-3.auto.marks c.mark_pair.ensures c.mark_pair-2.ensures c.mark_pair-3.ensures
