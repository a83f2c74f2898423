-- `blade::centroid_of_two` meets its contract. Assumes nothing.
use mathlib.Core.Path.{◌≡◌, ap, ◌∙◌}
use mathlib.Core.List.{[], ◌∷◌}
use lib.Ieee.{of_int, of_bits}
use Rattle.lists.specs.Lists.{fold}
use Rattle.float.specs.Numbers.{count32}
use Rattle.blade.specs.declared.Point.{Point}
use Rattle.blade.specs.Points.{origin, plus_of, over_of, sum_of, centroid_of}
use Rattle.blade.proofs.centroid_of_two.Goals as goal

-- each call's answer put in the next one's place
glue : (a b s u r : Point) → s ≡ plus_of origin a → u ≡ plus_of s b → r ≡ over_of u (count32 2) → r ≡ centroid_of (a ∷ b ∷ [])
unfolding centroid_of sum_of fold
glue a b s u r s_is u_is r_is = r_is ∙ ap (λ (z : Point). over_of z (count32 2)) (u_is ∙ ap (λ (z : Point). plus_of z b) s_is)

pub returns : goal.returns
unfolding of_bits of_int
returns c =
    let x = c.args in
    glue x.a x.b c.add.result c.add-2.result c.div.result c.add.ensures c.add-2.ensures c.div.ensures
