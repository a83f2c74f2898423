-- `image_checks::runs::in_range` meets its contract: it asks each number, and stops nowhere. Assumes nothing.
use Prim.Native.Nat.{◌≤◌, ◌-◌}
use mathlib.Core.Path.{◌≡◌}
use Rattle.float.specs.Ranges.{number?}
use Rattle.image_checks.specs.Runs.{numbers_ok}
use Rattle.image_checks.proofs.runs.in_range.Given as goal

-- `image_checks::runs::in_range` meets its contract: it asks each number, and stops nowhere. Assumes nothing.
abbrev pub invariant-loop-i : goal.invariant-loop-i
invariant-loop-i l = (l.ok ≡ numbers_ok number? l.bytes l.at l.i) × (l.i ≤ l.n)

abbrev pub decreases-loop-i : goal.decreases-loop-i
decreases-loop-i l = l.n - l.i
