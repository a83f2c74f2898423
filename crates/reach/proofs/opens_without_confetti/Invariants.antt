-- `reach::opens_without_confetti` meets its contract. The invariant: each group below g reaches the minimum. Assumes nothing.
use mathlib.Core.Path.{◌≡◌}
use mathlib.Core.Bool.{true}
use Prim.Native.Nat.{ℕ, ◌<◌, ◌≤◌}
use lib.Dec.{leb}
use lib.ListN.{length}
use Rattle.reach.specs.Walk.{table_reach}
use Rattle.reach.proofs.opens_without_confetti.Given as goal

-- `reach::opens_without_confetti` meets its contract. The invariant: each group below g reaches the minimum. Assumes nothing.
abbrev pub invariant-loop-g : goal.invariant-loop-g
invariant-loop-g l =
    (l.g ≤ l.count) × (length l.seen ≡ length l.initial.seen) × (length l.queue ≡ length l.initial.queue) × ((h : ℕ) → h < l.g → leb l.least (table_reach l.n l.k l.v l.verts l.groups h) ≡ true)
