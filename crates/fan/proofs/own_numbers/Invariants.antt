-- `fan::own_numbers` meets its contract. Assumes nothing.
use mathlib.Core.Path.{◌≡◌}
use Prim.Native.Nat.{ℕ, ◌<◌, ◌≤◌}
use lib.ListN.{length, get_or}
use Rattle.fan.proofs.own_numbers.Given as goal

-- `fan::own_numbers` meets its contract. Assumes nothing.
abbrev pub invariant-loop-i : goal.invariant-loop-i
invariant-loop-i l = (l.i ≤ length l.table) × (length l.table ≡ length l.initial.table) × ((a : ℕ) → a < l.i → get_or l.table a 0 ≡ a)
