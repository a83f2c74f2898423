-- `arguments::tests::rising_below` meets its contract. Assumes nothing.
use Rattle.judge.proofs.Joined.{and_next}
use Rattle.arguments.proofs.tests.rising_below.Goals as goal

pub returns : goal.returns
returns c = and_next _ _ _ _ _ c.both.ensures c.rising.ensures c.all_below.ensures
