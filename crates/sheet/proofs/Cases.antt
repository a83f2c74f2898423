-- The worked sheet (docs/RULES.md, R15.7): 46 bytes, 4 spare bits, and what it holds; a sheet without bytes gets 9.
use Prim.Native.Nat.{ℕ}
use mathlib.Core.Path.{◌≡◌, refl}
use mathlib.Core.List.{List, [], ◌∷◌}
use lib.ListN.{length}
use Rattle.bits.specs.Bits.{bits, bits_of, num}
use Rattle.bits.specs.Rows.{total, unpack, read_rows}
use Rattle.sheet.specs.Sheet.{sheet_with, seen_of, seen_with, all_ok, row_ok, pair_ok_of, coord, above, most}
use lib.IntN.{pos, negsuc}
use lib.Ieee.{Float, fin, is_nan, neg, add, sub, mul, div, lt, le, eq, of_int, of_bits}
use mathlib.Core.Bool.{true, false}
use Rattle.lists.specs.Lists.{map_at_of}
use Rattle.float.specs.Numbers.{zero32, one, abs_of}
use Rattle.float.specs.Root.{floor_root, root_units}
use Rattle.blade.specs.Points.{length_of}
use Rattle.model.specs.Mesh.{Particle}
use Rattle.sheet.specs.Read.{the_float_of, the_inverse_of, particle_from, area_of, triangle_from, edge_from, particles_from, triangles_from, edges_from, boundary_from, mesh_of_sheet, blade_of_sheet}
use Rattle.sheet.specs.declared.Counts.{Counts}
use Rattle.std.specs.Prelude.{Ok, Err}
use Rattle.mesh.specs.declared.refusals.Refusal.TheVariants.{Sheet}

unfoldable pub worked : List ℕ
worked = 0 ∷ 128 ∷ 8 ∷ 0 ∷ 128 ∷ 16 ∷ 0 ∷ 0 ∷ 0 ∷ 4 ∷ 0 ∷ 0 ∷ 8 ∷ 1 ∷ 0 ∷ 0 ∷ 2 ∷ 0 ∷ 0 ∷ 4 ∷ 2 ∷ 0 ∷ 0 ∷ 32 ∷ 12 ∷ 0 ∷ 0 ∷ 160 ∷ 8 ∷ 6 ∷ 0 ∷ 0 ∷ 16 ∷ 4 ∷ 2 ∷ 0 ∷ 128 ∷ 48 ∷ 12 ∷ 0 ∷ 255 ∷ 255 ∷ 252 ∷ 2 ∷ 128 ∷ 80 ∷ []

unfoldable pub worked_counts : Counts
worked_counts = record { particles = 4; triangles = 2; edges = 2; boundary = 4 }

pub worked_length : length worked ≡ 46
unfolding worked
worked_length = refl

pub worked_seen : seen_of most worked ≡ Ok worked_counts
unfolding worked worked_counts seen_of seen_with bits_of bits num sheet_with read_rows unpack total all_ok row_ok pair_ok_of above
worked_seen = refl

pub worked_sheet : sheet_with worked_counts (bits_of worked) ≡ record {
  particles = (0 ∷ 0 ∷ 0 ∷ []) ∷ (4 ∷ 0 ∷ 0 ∷ []) ∷ (4 ∷ 4 ∷ 0 ∷ []) ∷ (0 ∷ 4 ∷ 0 ∷ []) ∷ [];
  triangles = (0 ∷ 1 ∷ 2 ∷ []) ∷ (0 ∷ 2 ∷ 3 ∷ []) ∷ [];
  edges = (0 ∷ 2 ∷ 1 ∷ []) ∷ (1 ∷ 3 ∷ 0 ∷ []) ∷ [];
  boundary = (0 ∷ 1 ∷ []) ∷ (1 ∷ 2 ∷ []) ∷ (2 ∷ 3 ∷ []) ∷ (3 ∷ 0 ∷ []) ∷ [];
  blade = 2047 ∷ 2047 ∷ 5 ∷ 5 ∷ [];
}
unfolding worked worked_counts bits_of bits num sheet_with read_rows unpack total
worked_sheet = refl

pub empty_seen : (limits : Counts) → seen_of limits [] ≡ Err Sheet
unfolding seen_of
empty_seen limits = refl

-- 4, 8, 5, -1, and the rounded root of 32
abbrev four : Float
four = fin false 1 (pos 2)

abbrev eight : Float
eight = fin false 1 (pos 3)

abbrev five : Float
five = fin false 5 (pos 0)

abbrev back : Float
back = fin true 1 (pos 0)

abbrev root32 : Float
root32 = fin false 11863283 (negsuc 20)

-- a free particle at rest, of mass 1 and velocity 0
abbrev free : ℕ → Float → Float → Particle
free k x y = record { x = x; y = y; rest_x = x; rest_y = y; mass = one; inv = one; velocity_x = zero32; velocity_y = zero32; root = k; damaged = 0 }

-- the worked sheet's mesh: rest volumes 8, rest lengths the rounded root of 32
pub worked_mesh : mesh_of_sheet (sheet_with worked_counts (bits_of worked)) ≡ record {
  particles = free 0 zero32 zero32 ∷ free 1 four zero32 ∷ free 2 four four ∷ free 3 zero32 four ∷ [];
  triangles = record { corners = 0 ∷ 1 ∷ 2 ∷ []; volume = eight; stress = zero32 } ∷ record { corners = 0 ∷ 2 ∷ 3 ∷ []; volume = eight; stress = zero32 } ∷ [];
  edges = record { a = 0; b = 2; structural = 1; torn = 0; rest = root32; initial = root32; impulse = zero32; stress = zero32 }
      ∷ record { a = 1; b = 3; structural = 0; torn = 0; rest = root32; initial = root32; impulse = zero32; stress = zero32 } ∷ [];
  boundary = record { corners = 0 ∷ 1 ∷ [] } ∷ record { corners = 1 ∷ 2 ∷ [] } ∷ record { corners = 2 ∷ 3 ∷ [] } ∷ record { corners = 3 ∷ 0 ∷ [] } ∷ [];
}
unfolding worked worked_counts bits_of bits num sheet_with read_rows unpack total coord the_float_of the_inverse_of particle_from area_of triangle_from edge_from particles_from triangles_from edges_from boundary_from mesh_of_sheet map_at_of abs_of floor_root root_units length_of is_nan neg add sub mul div lt le eq of_int of_bits
worked_mesh = refl

-- and its blade: (-1,-1) to (5,5)
pub worked_blade : blade_of_sheet (sheet_with worked_counts (bits_of worked)) ≡ back ∷ back ∷ five ∷ five ∷ []
unfolding worked worked_counts bits_of bits num sheet_with read_rows unpack total coord the_float_of blade_of_sheet of_int of_bits
worked_blade = refl
