-- `blade::blade_hit` meets its contract. Assumes nothing.
use mathlib.Core.Path.{◌≡◌, ap, ◌∙◌}
use lib.Ieee.{Float}
use Rattle.blade.specs.declared.Point.{Point}
use Rattle.blade.specs.declared.Hit.{Hit}
use Rattle.blade.specs.Points.{minus_of, dot_of}
use Rattle.blade.specs.Blade.{normal_of, offset_along, cross_at_of, blade_hit_of}
use Rattle.blade.proofs.blade_hit.Goals as goal

-- each call's answer put in the next one's place
glue : (b0 b1 p q d w mp mq : Point) (dp dq : Float) (r : Hit) → d ≡ minus_of b1 b0 → mp ≡ minus_of p b0 → dp ≡ dot_of (normal_of d) mp → mq ≡ minus_of q b0 → dq ≡ dot_of (normal_of d) mq
    → w ≡ minus_of q p → r ≡ cross_at_of d b0 p w dp dq → r ≡ blade_hit_of b0 b1 p q
unfolding blade_hit_of
glue b0 b1 p q d w mp mq dp dq r d_is mp_is dp_is mq_is dq_is w_is r_is =
    r_is
    ∙ ap (λ (z : Float). cross_at_of d b0 p w z dq) (dp_is ∙ ap (dot_of (normal_of d)) mp_is)
    ∙ ap (λ (z : Float). cross_at_of d b0 p w (offset_along d b0 p) z) (dq_is ∙ ap (dot_of (normal_of d)) mq_is)
    ∙ ap (λ (z : Point). cross_at_of d b0 p z (offset_along d b0 p) (offset_along d b0 q)) w_is
    ∙ ap (λ (z : Point). cross_at_of z b0 p (minus_of q p) (offset_along z b0 p) (offset_along z b0 q)) d_is

pub returns : goal.returns
returns c =
    let a = c.args in
    glue a.b0 a.b1 a.p a.q c.sub-d.result c.sub-3.result c.sub.result c.sub-2.result
    c.dot-dp.result c.dot-dq.result c.cross_at.result
    c.sub-d.ensures c.sub.ensures c.dot-dp.ensures c.sub-2.ensures
    c.dot-dq.ensures c.sub-3.ensures c.cross_at.ensures
