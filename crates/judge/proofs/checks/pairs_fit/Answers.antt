-- `judge::checks::pairs_fit` meets its contract: the word of the rows so far tells of the two ends of each. Assumes nothing.
use Rattle.std.proofs.Common.{◌∙◌, arith}
use Rattle.judge.specs.Told.{fine}
use Rattle.judge.proofs.Wide.{none_told, more_told, end_told}
use Rattle.judge.proofs.Checked.{pair_tested}
use Rattle.judge.proofs.Fine.{or_fine}
use Rattle.judge.proofs.checks.pairs_fit.Goals as goal

pub loop-i-init : goal.loop-i-init
unfolding fine
loop-i-init c = (none_told _, omega arith)

pub loop-i-preserved : goal.loop-i-preserved
loop-i-preserved c = (more_told _ _ _ _ _ (or_fine _ _) c.loop-i.invariant.0 (c.two-fault.ensures ∙ pair_tested _ _ _ _), omega arith)

pub returns : goal.returns
unfolding fine
returns c = end_told _ _ _ _ c.loop-i.invariant.0 c.loop-i.invariant.1 c.loop-i-test.false
