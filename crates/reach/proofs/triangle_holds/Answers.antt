-- `reach::triangle_holds` meets its contract. Assumes nothing.
use Rattle.reach.proofs.Rowing.{held_first, held_second, held_third}
use Rattle.reach.proofs.triangle_holds.Goals as goal

pub returns-then-verts-t : goal.returns-then-verts-t
returns-then-verts-t c =
    let A = c.args in
    held_first A.verts.now A.j A.v c.requires c.if-verts-t.true

pub returns-then-verts-t-2 : goal.returns-then-verts-t-2
returns-then-verts-t-2 c =
    let A = c.args in
    held_second A.verts.now A.j A.v c.requires c.if-verts-t.false c.if-verts-t-2.true

pub returns : goal.returns
returns c =
    let A = c.args in
    held_third A.verts.now A.j A.v c.requires c.if-verts-t.false c.if-verts-t-2.false
