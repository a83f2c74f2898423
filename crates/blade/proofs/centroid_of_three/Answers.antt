-- `blade::centroid_of_three` meets its contract. Assumes nothing.
use mathlib.Core.Path.{◌≡◌, ap, ◌∙◌}
use mathlib.Core.List.{[], ◌∷◌}
use lib.Ieee.{of_int, of_bits}
use Rattle.lists.specs.Lists.{fold}
use Rattle.float.specs.Numbers.{count32}
use Rattle.blade.specs.declared.Point.{Point}
use Rattle.blade.specs.Points.{origin, plus_of, over_of, sum_of, centroid_of}
use Rattle.blade.proofs.centroid_of_three.Goals as goal

-- each call's answer put in the next one's place
glue : (a b d s u v r : Point) → s ≡ plus_of origin a → u ≡ plus_of s b → v ≡ plus_of u d → r ≡ over_of v (count32 3) → r ≡ centroid_of (a ∷ b ∷ d ∷ [])
unfolding centroid_of sum_of fold
glue a b d s u v r s_is u_is v_is r_is =
    r_is ∙ ap (λ (z : Point). over_of z (count32 3)) (v_is ∙ ap (λ (z : Point). plus_of z d) (u_is ∙ ap (λ (z : Point). plus_of z b) s_is))

pub returns : goal.returns
unfolding of_bits of_int
returns c =
    let x = c.args in
    glue x.a x.b x.c c.add.result c.add-2.result c.add-3.result c.div.result
    c.add.ensures c.add-2.ensures c.add-3.ensures c.div.ensures
