-- `image_checks::runs::flags` meets its contract: the word of the bits of all words so far is a flag where each of them is. Assumes nothing.
use native.Mathlib.Omega.{arith}
use Rattle.judge.proofs.Wide.{none_told, end_told}
use Rattle.image_checks.proofs.Columns.{flag_more}
use Rattle.image_checks.proofs.runs.flags.Goals as goal

pub loop-i-init : goal.loop-i-init
loop-i-init c = (none_told _, omega arith)

pub loop-i-preserved : goal.loop-i-preserved
loop-i-preserved c = (flag_more c.args.bytes.now c.args.at c.loop-i.i c.loop-i.bits _ c.word_at-bits.ensures.0 c.loop-i.invariant.0, omega arith)

pub returns : goal.returns
returns c = end_told _ _ _ _ c.loop-i.invariant.0 c.loop-i.invariant.1 c.loop-i-test.false
