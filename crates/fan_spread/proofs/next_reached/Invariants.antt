-- `fan_spread::next_reached` meets its contract. The invariant: none of those passed has the label. Assumes nothing.
use mathlib.Core.Path.{◌≡◌}
use Prim.Native.Nat.{ℕ, ◌<◌, ◌≤◌}
use lib.ListN.{length, get_or}
use Rattle.fan_spread.proofs.next_reached.Given as goal

-- `fan_spread::next_reached` meets its contract. The invariant: none of those passed has the label. Assumes nothing.
abbrev pub invariant-loop-a : goal.invariant-loop-a
invariant-loop-a l = (l.a ≤ length l.table) × ((b : ℕ) → l.label < b → b < l.a → get_or l.table b 0 ≡ l.label → ⊥)
