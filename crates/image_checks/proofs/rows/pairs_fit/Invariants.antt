-- `image_checks::rows::pairs_fit` meets its contract: the word of the rows so far tells of the two ends of each. Assumes nothing.
use Prim.Native.Nat.{ℕ, ◌≤◌, ◌-◌, ◌+◌}
use mathlib.Core.Path.{◌≡◌}
use mathlib.Core.List.{[], ◌∷◌}
use Rattle.lists.specs.Lists.{all, up_to}
use Rattle.model.specs.Valid.{named}
use Rattle.judge.specs.Told.{fine}
use Rattle.image.specs.Words.{word_at_of}
use Rattle.image_checks.proofs.rows.pairs_fit.Given as goal

-- `image_checks::rows::pairs_fit` meets its contract: the word of the rows so far tells of the two ends of each. Assumes nothing.
abbrev pub invariant-loop-i : goal.invariant-loop-i
invariant-loop-i l = (fine l.fault ≡ all (λ (k : ℕ). named l.n (word_at_of l.bytes (l.at + k) ∷ word_at_of l.bytes (l.at + l.t + k) ∷ [])) (up_to l.i)) × (l.i ≤ l.t)

abbrev pub decreases-loop-i : goal.decreases-loop-i
decreases-loop-i l = l.t - l.i
