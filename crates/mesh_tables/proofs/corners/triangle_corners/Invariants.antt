-- `mesh_tables::corners::triangle_corners` meets its contract: the corners of the triangles that were passed. Assumes nothing.
use borrow.Author.Rules.{rules}
use native.Mathlib.Omega.{arith}
use mathlib.Core.Path.{◌≡◌, refl, ◌∙◌, subst}
use Prim.Native.Nat.{ℕ, ◌*◌, ◌-◌, ◌≤◌}
use lib.ListN.{length, length-set}
use Rattle.mesh_tables.specs.Cornering.{TriangleCorners}
use Rattle.mesh_tables.proofs.Cornering.{triangle_corners_none, triangle_corners_more}
use Rattle.mesh_tables.proofs.corners.triangle_corners.Given as goal

-- `mesh_tables::corners::triangle_corners` meets its contract: the corners of the triangles that were passed. Assumes nothing.
abbrev pub invariant-loop-i : goal.invariant-loop-i
invariant-loop-i l = (l.i ≤ l.t) × (l.o ≡ l.i * 3) × (length l.verts ≡ length l.initial.verts) × TriangleCorners l.i l.corners l.verts

abbrev pub decreases-loop-i : goal.decreases-loop-i
decreases-loop-i l = l.t - l.i
