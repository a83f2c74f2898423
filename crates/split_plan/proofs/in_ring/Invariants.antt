-- `split_plan::in_ring` meets its contract. The invariant: no row so far holds x. Assumes nothing.
use mathlib.Core.Bool.{true}
use mathlib.Core.Path.{◌≡◌}
use Prim.Native.Nat.{ℕ, ◌≤◌, ◌<◌}
use Rattle.lists.specs.Lists.{stands}
use Rattle.split_plan.proofs.Rings.{row_of}
use Rattle.split_plan.proofs.in_ring.Given as goal

-- `split_plan::in_ring` meets its contract. The invariant: no row so far holds x. Assumes nothing.
abbrev pub invariant-loop-i : goal.invariant-loop-i
invariant-loop-i l = (l.i ≤ l.n) × ((j : ℕ) → j < l.i → stands l.x (row_of l.k l.verts j) ≡ true → ⊥)
