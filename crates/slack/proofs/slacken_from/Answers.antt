-- `slack::slacken_from` meets its contract. The invariant: the edges so far are seen to. Assumes nothing.
use Rattle.slack.proofs.SlackLaws.{slack_none, slack_more, slack_done}
use native.Mathlib.Omega.{arith}
use Rattle.slack.proofs.slacken_from.Goals as goal

pub loop-j-init : goal.loop-j-init
loop-j-init c = (omega arith, slack_none _ _ _)

pub slacken-requires : goal.slacken-requires
slacken-requires c = record { ends = omega (arith, c.requires.ends); lengths = omega (arith, c.requires.lengths, c.loop-j.invariant.1.long) }

pub loop-j-preserved : goal.loop-j-preserved
loop-j-preserved c = (omega arith, slack_more _ _ _ _ _ _ (omega (arith, c.requires.lengths)) c.slacken.auto.lengths c.loop-j.invariant.1 c.slacken.ensures)

pub shape_of-lengths : goal.shape_of-lengths
shape_of-lengths c = c.loop-j.invariant.1.long

pub returns : goal.returns
returns c = slack_done _ _ _ _ _ _ (omega arith) c.requires.lengths c.loop-j.invariant.1
