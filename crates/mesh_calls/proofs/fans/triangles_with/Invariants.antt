-- `mesh_calls::fans::triangles_with` meets its contract: the invariant is the count of the rows that were passed. Assumes nothing.
use Prim.Native.Nat.{ℕ, ◌≤◌, ◌-◌}
use native.Mathlib.Omega.{arith}
use mathlib.Core.Path.{◌≡◌}
use mathlib.Core.List.{List}
use lib.ListN.{length}
use lib.Ieee.{Float}
use Rattle.model.specs.Elements.{triangles_from}
use Rattle.mesh.specs.At.{triangles_at}
use Rattle.elements.specs.Table.{holding}
use Rattle.mesh_calls.proofs.Fanned.{no_triangles, triangle_counts, count_ends}
use borrow.Author.Rules.{rules}
use Rattle.mesh_calls.proofs.fans.triangles_with.Given as goal

-- `mesh_calls::fans::triangles_with` meets its contract: the invariant is the count of the rows that were passed. Assumes nothing.
abbrev pub invariant-loop-i : goal.invariant-loop-i
invariant-loop-i l = ((volumes : List Float) → l.n ≡ length (holding l.v (triangles_from 0 (triangles_at l.i l.corners volumes)))) × (l.n ≤ l.i) × (l.i ≤ l.t)

abbrev pub decreases-loop-i : goal.decreases-loop-i
decreases-loop-i l = l.t - l.i
