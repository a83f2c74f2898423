-- `reach::shares_corner` meets its contract. Assumes nothing.
use mathlib.Core.Path.{sym, ◌∙◌}
use Rattle.reach.specs.Walk.{row}
use Rattle.reach.proofs.Rowing.{not_counted, counted, uncounted}
use Rattle.reach.proofs.shares_corner.Goals as goal

-- `reach::shares_corner` meets its contract. Assumes nothing.
pub returns-then-x-v : goal.returns-then-x-v
returns-then-x-v c =
    let A = c.args in
    not_counted A.v A.x (row 3 A.verts.now A.j) c.if-x-v.true

pub returns-then-triangle_holds : goal.returns-then-triangle_holds
returns-then-triangle_holds c =
    let A = c.args in
    counted A.v A.x (row 3 A.verts.now A.j) c.if-x-v.false (sym c.triangle_holds.ensures ∙ c.if-triangle_holds.true)

pub returns : goal.returns
returns c =
    let A = c.args in
    uncounted A.v A.x (row 3 A.verts.now A.j) c.if-x-v.false (sym c.triangle_holds.ensures ∙ c.if-triangle_holds.false)
