-- `image_checks::rows::pairs_fit` meets its contract: the word of the rows so far tells of the two ends of each. Assumes nothing.
use native.Mathlib.Omega.{arith}
use mathlib.Core.Path.{ap, ◌∙◌}
use Rattle.model.specs.Valid.{named}
use Rattle.judge.specs.Told.{fine}
use Rattle.judge.proofs.Wide.{none_told, more_told, end_told}
use Rattle.judge.proofs.Fine.{or_fine}
use Rattle.image_checks.proofs.Lists.{two_path}
use Rattle.image_checks.proofs.rows.pairs_fit.Goals as goal

pub loop-i-init : goal.loop-i-init
unfolding fine
loop-i-init c = (none_told _, omega arith)

pub two-fault-requires : goal.two-fault-requires
two-fault-requires c = (omega arith, c.word_at-a.ensures.1)

pub loop-i-preserved : goal.loop-i-preserved
loop-i-preserved c = (more_told _ _ _ _ _ (or_fine _ _) c.loop-i.invariant.0 (c.two-fault.ensures ∙ ap (named _) (two_path c.word_at-a.ensures.0 c.word_at-b.ensures.0)), omega arith)

pub returns : goal.returns
unfolding fine
returns c = end_told _ _ _ _ c.loop-i.invariant.0 c.loop-i.invariant.1 c.loop-i-test.false
