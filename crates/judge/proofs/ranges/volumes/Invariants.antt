-- `judge::ranges::volumes` meets its contract: it asks each volume, and stops nowhere. Assumes nothing.
use Rattle.std.proofs.Common.{◌≡◌, ◌-◌, ◌≤◌}
use Rattle.judge.specs.Told.{column_ok}
use lib.Ieee.{nan}
use Rattle.float.specs.Ranges.{volume?}
use Rattle.judge.proofs.ranges.volumes.Given as goal

-- `judge::ranges::volumes` meets its contract: it asks each volume, and stops nowhere. Assumes nothing.
abbrev pub invariant-loop-i : goal.invariant-loop-i
invariant-loop-i l = (l.ok ≡ column_ok volume? nan l.s l.at l.i) × (l.i ≤ l.n)

abbrev pub decreases-loop-i : goal.decreases-loop-i
decreases-loop-i l = l.n - l.i
