-- `blade::lerp` meets its contract. Assumes nothing.
use mathlib.Core.Path.{◌≡◌, ap, ◌∙◌}
use lib.Ieee.{Float, of_bits}
use Rattle.blade.specs.declared.Point.{Point}
use Rattle.float.specs.Numbers.{minus, one}
use Rattle.blade.specs.Points.{plus_of, times_of, lerp_of}
use Rattle.blade.proofs.lerp.Goals as goal

-- each call's answer put in the next one's place
glue : (p q a b r : Point) (t : Float) → a ≡ times_of p (minus one t) → b ≡ times_of q t → r ≡ plus_of a b → r ≡ lerp_of p q t
unfolding lerp_of
glue p q a b r t a_is b_is r_is = r_is ∙ ap (λ (z : Point). plus_of z b) a_is ∙ ap (plus_of (times_of p (minus one t))) b_is

pub returns : goal.returns
unfolding of_bits
returns c =
    let a = c.args in
    glue a.p a.q c.mul.result c.mul-2.result c.add.result a.t c.mul.ensures c.mul-2.ensures c.add.ensures
