-- `straddling::rising::place_for` meets its contract: what stands from `at` on is above i. Assumes nothing.
use native.Mathlib.Omega.{arith}
use Prim.Native.Nat.{ℕ, ◌<◌, ◌≤◌}
use lib.ListN.{get_or}
use Rattle.straddling.proofs.PutLaws.{above_more}
use Rattle.straddling.proofs.rising.place_for.Given as goal

-- `straddling::rising::place_for` meets its contract: what stands from `at` on is above i. Assumes nothing.
abbrev pub invariant-loop-at : goal.invariant-loop-at
invariant-loop-at l = (l.at ≤ l.r) × ((k : ℕ) → l.at ≤ k → k < l.r → l.i < get_or l.list k 0)
