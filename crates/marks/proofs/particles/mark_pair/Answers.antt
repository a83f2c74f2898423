-- `marks::particles::mark_pair` meets its contract. A miss marks nothing, a hit both ends. Assumes nothing.
use Rattle.marks.proofs.MarkLaws.{pair_miss, pair_hit}
use Rattle.marks.specs.Marking.{blade_by}
use Rattle.model.specs.Cut.{hit?}
use mathlib.Core.Path.{ap}
use borrow.Author.Rules.{rules}
use Rattle.marks.proofs.particles.mark_pair.Goals as goal

pub returns-in_default : goal.returns-in_default
returns-in_default c = let A = c.args in
    pair_miss (blade_by A.rule A.b0 A.b1) A.points.now A.x A.y _ _ _ _ c.place.ensures c.place-2.ensures c.tested-hit.ensures (ap hit? c.in_default.is)

pub returns : goal.returns
returns c = let A = c.args in
    pair_hit (blade_by A.rule A.b0 A.b1) A.points.now A.x A.y _ _ _ _ _ _ c.place.ensures c.place-2.ensures c.tested-hit.ensures (ap hit? c.in-Hit.is) c.mark.auto.marks c.mark.ensures c.mark-2.ensures
