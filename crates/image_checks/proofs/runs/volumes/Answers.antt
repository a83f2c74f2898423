-- `image_checks::runs::volumes` meets its contract: it asks each number, and stops nowhere. Assumes nothing.
use native.Mathlib.Omega.{arith}
use mathlib.Core.Path.{ap, ◌∙◌}
use Rattle.judge.proofs.Wide.{none_told, more_told, end_told}
use Rattle.float.specs.Ranges.{volume?}
use Rattle.image.specs.Words.{number_of}
use Rattle.image_checks.proofs.runs.volumes.Goals as goal

pub loop-i-init : goal.loop-i-init
loop-i-init c = (none_told _, omega arith)

pub loop-i-preserved : goal.loop-i-preserved
loop-i-preserved c = (more_told _ _ _ _ _ c.both-ok.ensures c.loop-i.invariant.0 (c.volume_in_range.ensures ∙ ap volume? (c.number_of-x.ensures ∙ ap number_of c.word_at.ensures.0)), omega arith)

pub returns : goal.returns
returns c = end_told _ _ _ _ c.loop-i.invariant.0 c.loop-i.invariant.1 c.loop-i-test.false
