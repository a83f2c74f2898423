-- `reach::touches` meets its contract. Assumes nothing.
use mathlib.Core.Path.{sym, ◌∙◌}
use Rattle.reach.proofs.Rowing.{touch_low, touch_high}
use Rattle.reach.proofs.touches.Goals as goal

pub returns-then-i-j : goal.returns-then-i-j
returns-then-i-j c =
    let A = c.args in
    c.shares_facet.ensures ∙ sym (touch_low A.k A.v A.verts.now A.i A.j c.if-i-j.true)

pub returns : goal.returns
returns c =
    let A = c.args in
    c.shares_facet-2.ensures ∙ sym (touch_high A.k A.v A.verts.now A.i A.j c.if-i-j.false)
