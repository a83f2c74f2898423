-- `judge::ranges::volumes` meets its contract: it asks each volume, and stops nowhere. Assumes nothing.
use Rattle.std.proofs.Common.{arith}
use Rattle.judge.proofs.Wide.{none_told, more_told, end_told}
use Rattle.judge.proofs.ranges.volumes.Goals as goal

pub loop-i-init : goal.loop-i-init
loop-i-init c = (none_told _, omega arith)

pub loop-i-preserved : goal.loop-i-preserved
loop-i-preserved c = (more_told _ _ _ _ _ c.both-ok.ensures c.loop-i.invariant.0 c.volume_in_range.ensures, omega arith)

pub returns : goal.returns
returns c = end_told _ _ _ _ c.loop-i.invariant.0 c.loop-i.invariant.1 c.loop-i-test.false
