-- `slack::slacken` meets its contract: two stores, or none. Assumes nothing.
use Rattle.slack.proofs.SlackLaws.{slack_put, slack_not}
use lib.ListN.{length-set}
use lib.Ieee.{of_bits}
use native.Mathlib.Omega.{arith}
use Rattle.slack.proofs.slacken.Goals as goal

pub bounds-lengths-size-then-one_beyond : goal.bounds-lengths-size-then-one_beyond
bounds-lengths-size-then-one_beyond c = simp length-set (omega (arith, c.requires.lengths))

pub returns-then-one_beyond : goal.returns-then-one_beyond
unfolding of_bits
returns-then-one_beyond c = slack_put _ _ _ _ c.requires.lengths _ c.one_beyond.ensures c.if-one_beyond.true

pub returns-else-one_beyond : goal.returns-else-one_beyond
returns-else-one_beyond c = slack_not _ _ _ _ c.requires.lengths _ c.one_beyond.ensures c.if-one_beyond.false
