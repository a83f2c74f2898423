-- `elements::kind_of` meets its contract. The invariant: no edge that was passed is structural. Assumes nothing.
use Prim.Native.Nat.{ℕ, ◌+◌, ◌*◌, ◌≤◌, ◌<◌}
use mathlib.Core.Path.{◌≡◌}
use lib.ListN.{get_or}
use Rattle.elements.proofs.kind_of.Given as goal

-- `elements::kind_of` meets its contract. The invariant: no edge that was passed is structural. Assumes nothing.
abbrev pub invariant-loop-i : goal.invariant-loop-i
invariant-loop-i l = (l.i ≤ l.e) × ((k : ℕ) → k < l.i → get_or l.ends (2 * l.c + k) 0 ≡ 1 → ⊥)
