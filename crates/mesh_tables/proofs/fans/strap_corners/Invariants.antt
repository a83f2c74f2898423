-- `mesh_tables::fans::strap_corners` meets its contract: the invariant is the fan among the rows that were passed. The laws are in proofs/FanLaws.antt.
use mathlib.Core.Path.{subst}
use Prim.Native.Nat.{ℕ, ◌≤◌, ◌-◌}
use native.Mathlib.Omega.{arith}
use mathlib.Core.Path.{◌≡◌, refl, sym, ap, ◌∙◌}
use mathlib.Core.List.{List}
use mathlib.Core.Logic.{⊎_elim}
use lib.Ieee.{Float}
use lib.ListN.{length}
use Rattle.mesh_tables.specs.Fans.{CornersRead, straps_with}
use Rattle.mesh_tables.proofs.FanLaws.{corners_none, corners_skip, corners_take, straps_held, no_straps}
use Rattle.mesh_tables.proofs.fans.strap_corners.Given as goal

-- `mesh_tables::fans::strap_corners` meets its contract: the invariant is the fan among the rows that were passed. The laws are in proofs/FanLaws.antt.
abbrev pub invariant-loop-i : goal.invariant-loop-i
invariant-loop-i l = ((M : List Float) → CornersRead 2 (straps_with l.v l.i l.ends M) l.r l.verts) × (length l.verts ≡ length l.initial.verts) × (l.r ≤ l.i) × (l.i ≤ l.e)

abbrev pub decreases-loop-i : goal.decreases-loop-i
decreases-loop-i l = l.e - l.i
