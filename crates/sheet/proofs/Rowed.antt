-- The mesh of a sheet has three corners to a triangle, and two to a boundary entry.
use Prim.Native.Nat.{ℕ}
use mathlib.Core.Path.{refl}
use mathlib.Core.List.{List, [], ◌∷◌}
use Rattle.blade.specs.declared.Point.{Point}
use Rattle.model.specs.Trace.{Threes, Twos, Rowed}
use Rattle.sheet.specs.Sheet.{Sheet}
use Rattle.sheet.specs.Read.{triangle_from, triangles_from, boundary_from, mesh_of_sheet}

threes_from : (place : ℕ → Point) (rows : List (List ℕ)) → Threes (triangles_from place rows)
unfolding triangles_from triangle_from
threes_from place [] = tt
threes_from place (r ∷ rows) = (refl, threes_from place rows)

twos_from : (rows : List (List ℕ)) → Twos (boundary_from rows)
unfolding boundary_from
twos_from [] = tt
twos_from (r ∷ rows) = (refl, twos_from rows)

pub sheet_rowed : (s : Sheet) → Rowed (mesh_of_sheet s)
unfolding mesh_of_sheet
sheet_rowed s = record { triangles = threes_from _ s.triangles; boundary = twos_from s.boundary }
