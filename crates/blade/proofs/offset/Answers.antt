-- `blade::offset` meets its contract. Assumes nothing.
use mathlib.Core.Path.{◌≡◌, ap, ◌∙◌}
use lib.Ieee.{Float}
use Rattle.blade.specs.declared.Point.{Point}
use Rattle.blade.specs.Points.{minus_of, dot_of}
use Rattle.blade.specs.Blade.{normal_of, offset_along, offset_of}
use Rattle.blade.proofs.offset.Goals as goal

-- each call's answer put in the next one's place
glue : (b0 b1 v d m : Point) (r : Float) → d ≡ minus_of b1 b0 → m ≡ minus_of v b0 → r ≡ dot_of (normal_of d) m → r ≡ offset_of b0 b1 v
glue b0 b1 v d m r d_is m_is r_is = r_is ∙ ap (dot_of (normal_of d)) m_is ∙ ap (λ (z : Point). offset_along z b0 v) d_is

pub returns : goal.returns
returns c =
    let a = c.args in
    glue a.b0 a.b1 a.v c.sub-d.result c.sub.result c.dot.result c.sub-d.ensures c.sub.ensures c.dot.ensures
