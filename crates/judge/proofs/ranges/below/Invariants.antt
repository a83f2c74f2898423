-- `judge::ranges::below` meets its contract: the word of the words so far tells of each of them. Assumes nothing.
use Rattle.std.proofs.Common.{◌≡◌, ℕ, ◌-◌, ◌≤◌, ltb, get_or}
use Rattle.lists.specs.Lists.{all, up_to}
use Rattle.judge.specs.Told.{fine}
use Rattle.judge.proofs.ranges.below.Given as goal

-- `judge::ranges::below` meets its contract: the word of the words so far tells of each of them. Assumes nothing.
abbrev pub invariant-loop-i : goal.invariant-loop-i
invariant-loop-i l = (fine l.fault ≡ all (λ (k : ℕ). ltb (get_or l.s k 0) l.bound) (up_to l.i)) × (l.i ≤ l.n)

abbrev pub decreases-loop-i : goal.decreases-loop-i
decreases-loop-i l = l.n - l.i
