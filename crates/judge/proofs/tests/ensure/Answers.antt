-- `judge::tests::ensure` meets its contract: by cases of the test. Assumes nothing.
use Rattle.judge.specs.Checks.{then_check}
use Rattle.judge.proofs.tests.ensure.Goals as goal

pub returns-then-ok : goal.returns-then-ok
unfolding then_check
returns-then-ok c = rw (c.if-ok.true)

pub returns-else-ok : goal.returns-else-ok
unfolding then_check
returns-else-ok c = rw (c.if-ok.false)
