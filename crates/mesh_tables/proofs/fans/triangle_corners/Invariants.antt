-- `mesh_tables::fans::triangle_corners` meets its contract: the invariant is the fan among the rows that were passed. The laws are in proofs/FanLaws.antt.
use mathlib.Core.Path.{subst}
use Prim.Native.Nat.{ℕ, ◌≤◌, ◌-◌}
use native.Mathlib.Omega.{arith}
use mathlib.Core.Path.{◌≡◌, refl, sym, ap, ◌∙◌}
use mathlib.Core.List.{List}
use mathlib.Core.Logic.{⊎_elim}
use lib.Ieee.{Float}
use lib.ListN.{length}
use Rattle.mesh_tables.specs.Fans.{CornersRead, triangles_with}
use Rattle.mesh_tables.proofs.FanLaws.{corners_none, corners_skip, corners_take, triangles_held, no_triangles}
use Rattle.mesh_tables.proofs.fans.triangle_corners.Given as goal

-- `mesh_tables::fans::triangle_corners` meets its contract: the invariant is the fan among the rows that were passed. The laws are in proofs/FanLaws.antt.
abbrev pub invariant-loop-i : goal.invariant-loop-i
invariant-loop-i l = ((M : List Float) → CornersRead 3 (triangles_with l.v l.i l.corners M) l.r l.verts) × (length l.verts ≡ length l.initial.verts) × (l.r ≤ l.i) × (l.i ≤ l.t)

abbrev pub decreases-loop-i : goal.decreases-loop-i
decreases-loop-i l = l.t - l.i
