-- `row_differences::longer` meets its contract: the larger of two numbers. Assumes nothing.
use native.Mathlib.Omega.{arith}
use Rattle.row_differences.proofs.longer.Goals as goal

-- `row_differences::longer` meets its contract: the larger of two numbers. Assumes nothing.
pub returns-then-n-m : goal.returns-then-n-m
returns-then-n-m c = record { first = omega (arith, c.if-n-m.true); second = omega arith; few = omega arith }

pub returns-else-n-m : goal.returns-else-n-m
returns-else-n-m c = record { first = omega arith; second = omega (arith, c.if-n-m.false); few = omega arith }
