-- `marks::particles::beside` meets its contract. Assumes nothing.
use borrow.Author.Rules.{rules}
use Rattle.marks.proofs.MarkLaws.{beside_rounded, beside_untold}
use Rattle.marks.proofs.particles.beside.Goals as goal

pub returns-in-Rounded : goal.returns-in-Rounded
returns-in-Rounded c =
    let A = c.args in
    beside_rounded A.rule A.b0 A.b1 A.points.now A.x A.y A.z _ _ _ _ _ _ _ c.in-Rounded.is c.place.ensures c.place-in-Rounded.ensures c.place-in-Rounded-2.ensures
    c.offset-dx.ensures c.offset-dy.ensures c.offset-dz.ensures c.alike.ensures

pub returns-in-Signs : goal.returns-in-Signs
returns-in-Signs c = beside_untold _ _ _ _ _
