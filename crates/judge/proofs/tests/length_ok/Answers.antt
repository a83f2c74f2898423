-- `judge::tests::length_ok` meets its contract: two tests. Assumes nothing.
use Rattle.judge.proofs.Joined.{and_next}
use Rattle.judge.proofs.tests.length_ok.Goals as goal

pub returns : goal.returns
returns c = and_next _ _ _ _ _ c.both.ensures c.in_range.ensures c.not_below_zero.ensures
