-- `mesh_calls::fans::straps_with` meets its contract: the invariant is the count of the rows that were passed. Assumes nothing.
use Prim.Native.Nat.{ℕ, ◌≤◌, ◌-◌}
use native.Mathlib.Omega.{arith}
use mathlib.Core.Path.{◌≡◌}
use mathlib.Core.List.{List}
use lib.ListN.{length}
use lib.Ieee.{Float}
use Rattle.model.specs.Elements.{straps_from}
use Rattle.mesh.specs.At.{edges_at}
use Rattle.elements.specs.Table.{holding}
use Rattle.mesh_calls.proofs.Fanned.{no_edges, strap_counts, count_ends}
use borrow.Author.Rules.{rules}
use Rattle.mesh_calls.proofs.fans.straps_with.Given as goal

-- `mesh_calls::fans::straps_with` meets its contract: the invariant is the count of the rows that were passed. Assumes nothing.
abbrev pub invariant-loop-i : goal.invariant-loop-i
invariant-loop-i l = ((lengths : List Float) → l.n ≡ length (holding l.v (straps_from 0 (edges_at l.i l.ends lengths)))) × (l.n ≤ l.i) × (l.i ≤ l.e)

abbrev pub decreases-loop-i : goal.decreases-loop-i
decreases-loop-i l = l.e - l.i
