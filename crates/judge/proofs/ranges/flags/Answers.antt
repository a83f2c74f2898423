-- `judge::ranges::flags` meets its contract: the word of the bits of all words so far is a flag where each of them is. Assumes nothing.
use Rattle.std.proofs.Common.{arith}
use Rattle.judge.proofs.Wide.{none_told, flag_told, end_told}
use Rattle.judge.proofs.ranges.flags.Goals as goal

pub loop-i-init : goal.loop-i-init
loop-i-init c = (none_told _, omega arith)

pub loop-i-preserved : goal.loop-i-preserved
loop-i-preserved c = (flag_told c.args.s.now c.args.at c.loop-i.i c.loop-i.bits c.loop-i.invariant.0, omega arith)

pub returns : goal.returns
returns c = end_told _ _ _ _ c.loop-i.invariant.0 c.loop-i.invariant.1 c.loop-i-test.false
