-- `pieces::sides::smaller_of` meets its contract. Assumes nothing.
use borrow.Author.Tests.{lt-ltb, le-ltb}
use native.Mathlib.Omega.{arith}
use Rattle.pieces.specs.Sides.{smaller}
use Rattle.pieces.proofs.sides.smaller_of.Goals as goal

-- `pieces::sides::smaller_of` meets its contract. Assumes nothing.
pub returns-then-a-b : goal.returns-then-a-b
unfolding smaller
returns-then-a-b c = rw (lt-ltb _ _ c.if-a-b.true)

pub returns : goal.returns
unfolding smaller
returns c = rw (le-ltb c.args.a c.args.b (omega (arith, c.if-a-b.false)))
