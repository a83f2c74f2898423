-- `image_checks::runs::below` meets its contract: the word of the words so far tells of each of them. Assumes nothing.
use Prim.Native.Nat.{ℕ, ◌≤◌, ◌-◌}
use mathlib.Core.Path.{◌≡◌}
use lib.Dec.{ltb}
use Rattle.judge.specs.Told.{fine}
use Rattle.image_checks.specs.Runs.{words_ok}
use Rattle.image_checks.proofs.runs.below.Given as goal

-- `image_checks::runs::below` meets its contract: the word of the words so far tells of each of them. Assumes nothing.
abbrev pub invariant-loop-i : goal.invariant-loop-i
invariant-loop-i l = (fine l.fault ≡ words_ok (λ (w : ℕ). ltb w l.bound) l.bytes l.at l.i) × (l.i ≤ l.n)

abbrev pub decreases-loop-i : goal.decreases-loop-i
decreases-loop-i l = l.n - l.i
