-- `mesh_tables::corners::strap_corners` meets its contract: the corners of the straps among the edges that were passed. Assumes nothing.
use borrow.Author.Rules.{rules}
use native.Mathlib.Omega.{arith}
use mathlib.Core.Path.{◌≡◌, refl, ◌∙◌, subst}
use mathlib.Core.Logic.{⊎_elim}
use Prim.Native.Nat.{ℕ, ◌*◌, ◌-◌, ◌<◌, ◌≤◌}
use lib.ListN.{length, length-set}
use Rattle.mesh_tables.specs.Cornering.{StrapCorners}
use Rattle.mesh_tables.proofs.Cornering.{strap_corners_none, strap_corners_skip, strap_corners_take}
use Rattle.mesh_tables.proofs.corners.strap_corners.Given as goal

-- `mesh_tables::corners::strap_corners` meets its contract: the corners of the straps among the edges that were passed. Assumes nothing.
abbrev pub invariant-loop-i : goal.invariant-loop-i
invariant-loop-i l = (l.i ≤ l.e) × (l.n ≤ l.i) × (l.o ≡ l.n * 2) × (length l.verts ≡ length l.initial.verts) × StrapCorners l.i l.ends l.n l.verts

abbrev pub decreases-loop-i : goal.decreases-loop-i
decreases-loop-i l = l.e - l.i
