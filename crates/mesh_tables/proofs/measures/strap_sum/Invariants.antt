-- `mesh_tables::measures::strap_sum` meets its contract: s is the sum of the straps among the edges that were passed. Assumes nothing.
use borrow.Author.Rules.{rules}
use native.Mathlib.Omega.{arith}
use Prim.Native.Nat.{ℕ, ◌+◌, ◌/◌, ◌≤◌, ◌-◌}
use lib.Ieee.{Float, of_bits, nan}
use lib.ListN.{length, get_or}
use Rattle.float.specs.Numbers.{plus}
use mathlib.Core.Path.{◌≡◌, sym, ◌∙◌, ap}
use mathlib.Core.Logic.{⊎_elim}
use Rattle.model.specs.Elements.{straps_from}
use Rattle.mesh.specs.At.{edges_at}
use Rattle.mesh_tables.proofs.Summing.{summed, straps_none, straps_take, straps_skip}
use Rattle.mesh_tables.proofs.measures.strap_sum.Given as goal

-- `mesh_tables::measures::strap_sum` meets its contract: s is the sum of the straps among the edges that were passed. Assumes nothing.
abbrev pub invariant-loop-i : goal.invariant-loop-i
invariant-loop-i l = (l.i ≤ l.e) × (l.s ≡ summed (straps_from 0 (edges_at l.i l.ends l.lengths)))

abbrev pub decreases-loop-i : goal.decreases-loop-i
decreases-loop-i l = l.e - l.i
