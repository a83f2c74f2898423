-- `reading_c::fans::bytes_into` meets its contract: a block fills with bytes. Assumes nothing.
use native.Mathlib.Omega.{arith}
use Rattle.reading_c.proofs.Siding.{copy_start, copy_more, copy_done}
use Rattle.reading_c.proofs.fans.bytes_into.Goals as goal

pub loop-i-init : goal.loop-i-init
loop-i-init c = copy_start _ _ _

pub loop-i-preserved : goal.loop-i-preserved
loop-i-preserved c = copy_more _ _ _ _ _ _ c.loop-i.invariant c.loop-i-test.true c.requires.0 c.requires.1 c.from.ensures

pub shape_of-out : goal.shape_of-out
shape_of-out c = c.loop-i.invariant.long

pub returns : goal.returns
returns c = copy_done _ _ _ _ _ c.loop-i.invariant c.loop-i-test.false
