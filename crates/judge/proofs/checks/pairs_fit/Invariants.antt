-- `judge::checks::pairs_fit` meets its contract: the word of the rows so far tells of the two ends of each. Assumes nothing.
use Rattle.std.proofs.Common.{◌≡◌, ◌-◌, ◌≤◌}
use Rattle.lists.specs.Lists.{all, up_to}
use Rattle.judge.specs.Told.{pair_ok, fine}
use Rattle.judge.proofs.checks.pairs_fit.Given as goal

-- `judge::checks::pairs_fit` meets its contract: the word of the rows so far tells of the two ends of each. Assumes nothing.
abbrev pub invariant-loop-i : goal.invariant-loop-i
invariant-loop-i l = (fine l.fault ≡ all (pair_ok l.n l.stride l.s) (up_to l.i)) × (l.i ≤ l.t)

abbrev pub decreases-loop-i : goal.decreases-loop-i
decreases-loop-i l = l.t - l.i
