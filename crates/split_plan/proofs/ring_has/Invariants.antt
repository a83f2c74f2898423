-- `split_plan::ring_has` meets its contract. The invariant: no row so far has group g and holds x. Assumes nothing.
use Prim.Native.Nat.{ℕ, ◌≤◌, ◌<◌}
use Rattle.split_plan.proofs.Rings.{Holds}
use Rattle.split_plan.proofs.ring_has.Given as goal

-- `split_plan::ring_has` meets its contract. The invariant: no row so far has group g and holds x. Assumes nothing.
abbrev pub invariant-loop-i : goal.invariant-loop-i
invariant-loop-i l = (l.i ≤ l.n) × ((j : ℕ) → j < l.i → Holds l.x l.g l.k l.verts l.groups j → ⊥)
