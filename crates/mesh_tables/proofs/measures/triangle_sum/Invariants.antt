-- `mesh_tables::measures::triangle_sum` meets its contract: s is the sum of the triangles that were passed. Assumes nothing.
use borrow.Author.Rules.{rules}
use native.Mathlib.Omega.{arith}
use Prim.Native.Nat.{ℕ, ◌≤◌, ◌-◌}
use lib.Ieee.{Float, of_bits, nan}
use Rattle.float.specs.Numbers.{plus}
use mathlib.Core.Path.{◌≡◌, sym, ◌∙◌, ap, ap₂}
use Rattle.model.specs.Elements.{triangles_from}
use Rattle.mesh.specs.At.{triangles_at}
use Rattle.mesh_tables.proofs.Summing.{summed, triangles_none, triangles_sum}
use Rattle.mesh_tables.proofs.measures.triangle_sum.Given as goal

-- `mesh_tables::measures::triangle_sum` meets its contract: s is the sum of the triangles that were passed. Assumes nothing.
abbrev pub invariant-loop-i : goal.invariant-loop-i
invariant-loop-i l = (l.i ≤ l.t) × (l.s ≡ summed (triangles_from 0 (triangles_at l.i l.corners l.volumes)))

abbrev pub decreases-loop-i : goal.decreases-loop-i
decreases-loop-i l = l.t - l.i
