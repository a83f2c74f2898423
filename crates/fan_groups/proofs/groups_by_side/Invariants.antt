-- `fan_groups::groups_by_side` meets its contract. The invariant: the places passed have their numbers. Assumes nothing.
use mathlib.Core.Path.{◌≡◌}
use Prim.Native.Nat.{ℕ, ◌*◌, ◌<◌, ◌≤◌}
use lib.ListN.{length, get_or}
use Rattle.fan_groups.proofs.groups_by_side.Given as goal

-- `fan_groups::groups_by_side` meets its contract. The invariant: the places passed have their numbers. Assumes nothing.
abbrev pub invariant-loop-i : goal.invariant-loop-i
invariant-loop-i l =
    (l.i ≤ length l.sides) × (length l.groups ≡ length l.sides) × ((a : ℕ) → a < l.i → get_or l.groups a 0 ≡ get_or l.sides a 0 * l.low)
