-- `pieces::sides::larger_of` meets its contract. Assumes nothing.
use borrow.Author.Tests.{lt-ltb, le-ltb}
use native.Mathlib.Omega.{arith}
use Rattle.pieces.specs.Sides.{larger}
use Rattle.pieces.proofs.sides.larger_of.Goals as goal

-- `pieces::sides::larger_of` meets its contract. Assumes nothing.
pub returns-then-a-b : goal.returns-then-a-b
unfolding larger
returns-then-a-b c = rw (lt-ltb _ _ c.if-a-b.true)

pub returns : goal.returns
unfolding larger
returns c = rw (le-ltb c.args.a c.args.b (omega (arith, c.if-a-b.false)))
