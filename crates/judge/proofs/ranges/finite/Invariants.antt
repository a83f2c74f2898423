-- `judge::ranges::finite` meets its contract: it asks each number, and stops nowhere. Assumes nothing.
use Rattle.std.proofs.Common.{◌≡◌, ◌-◌, ◌≤◌}
use Rattle.judge.specs.Told.{column_ok}
use lib.Ieee.{nan}
use Rattle.float.specs.Ranges.{finite?}
use Rattle.judge.proofs.ranges.finite.Given as goal

-- `judge::ranges::finite` meets its contract: it asks each number, and stops nowhere. Assumes nothing.
abbrev pub invariant-loop-i : goal.invariant-loop-i
invariant-loop-i l = (l.ok ≡ column_ok finite? nan l.s l.at l.i) × (l.i ≤ l.n)

abbrev pub decreases-loop-i : goal.decreases-loop-i
decreases-loop-i l = l.n - l.i
