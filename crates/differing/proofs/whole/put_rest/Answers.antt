-- `differing::whole::put_rest` meets its contract: the outlines, then the blades. Assumes nothing.
use Rattle.differing.proofs.Wholes.{counts_small, ask_sides, blade_is}
use Rattle.row_differences.proofs.Walking.{rows_few}
use Rattle.differences.proofs.Writing.{lists_then, lists_as}
use Rattle.differences.specs.declared.Part.TheVariants.{Boundary}
use Rattle.differences.specs.Differences.{Difference, rows_differ, blades}
use Rattle.edition.proofs.Meshes.{blade_in}
use Rattle.edition.proofs.Sides.{sides_long}
use Rattle.outline_tables.specs.Rows.{sides_at}
use Rattle.lists.specs.Lists.{pick, same_row_of}
use mathlib.Core.List.{List, [], ◌∷◌}
use mathlib.Core.Path.{◌∙◌, ap₂}
use Prim.Native.Nat.{ℕ}
use native.Mathlib.Omega.{arith}
use Rattle.differing.proofs.whole.put_rest.Goals as goal

-- `differing::whole::put_rest` meets its contract: the outlines, then the blades. Assumes nothing.
pub put_sides-sides-requires : goal.put_sides-sides-requires
put_sides-sides-requires c = let a = c.args in let p = c.requires in ask_sides a.first.now a.c a.left.now a.second.now a.d a.right.now p.first p.second _ (omega (arith, p.few))

pub blade_bit-requires : goal.blade_bit-requires
blade_bit-requires c = c.requires.first.typed.six

pub blade_at-a-requires : goal.blade_at-a-requires
blade_at-a-requires c = blade_in c.args.first.now _ c.requires.first.typed c.blade_bit.ensures

pub blade_bit-requires-2 : goal.blade_bit-requires-2
blade_bit-requires-2 c = c.requires.second.typed.six

pub blade_at-b-requires : goal.blade_at-b-requires
blade_at-b-requires c = blade_in c.args.second.now _ c.requires.second.typed c.blade_bit-2.ensures

pub put_blades-requires : goal.put_blades-requires
put_blades-requires c = let a = c.args in let p = c.requires in record { first = c.blade_at-a.ensures.fits; second = c.blade_at-b.ensures.fits; few = omega (arith, c.put_sides-sides.ensures.counted, rows_few Boundary 0 (sides_at a.c.boundary a.left.now) (sides_at a.d.boundary a.right.now), sides_long a.c.boundary a.left.now, sides_long a.d.boundary a.right.now, counts_small a.first.now a.c a.left.now p.first, counts_small a.second.now a.d a.right.now p.second, p.few) }

pub shape_of-out : goal.shape_of-out
shape_of-out c = c.put_blades.auto.out ∙ c.put_sides-sides.auto.out

pub returns : goal.returns
returns c = let a = c.args in let p = c.requires in lists_then (lists_as c.put_sides-sides.ensures (ap₂ (λ (f g : List (List ℕ)). rows_differ Boundary 0 f g) p.first.sides p.second.sides)) (lists_as c.put_blades.ensures (ap₂ (λ (f g : List ℕ). pick {A = List Difference} (same_row_of f g) [] (blades f g ∷ [])) (blade_is a.first.now a.c a.left.now p.first _ _ c.blade_bit.ensures c.blade_at-a.ensures) (blade_is a.second.now a.d a.right.now p.second _ _ c.blade_bit-2.ensures c.blade_at-b.ensures)))
