-- `feeding::held` meets its contract. Assumes nothing.
use native.Mathlib.Omega.{arith}
use Rattle.feeding.specs.Feeding.{held_in}
use Rattle.feeding.proofs.held.Goals as goal

pub returns-then-n-lt-MOST : goal.returns-then-n-lt-MOST
unfolding held_in
returns-then-n-lt-MOST c = record { is = omega (arith, c.word_at-n.ensures.0); few = omega arith }

pub returns : goal.returns
unfolding held_in
returns c = record { is = omega (arith, c.word_at-n.ensures.0); few = omega arith }
