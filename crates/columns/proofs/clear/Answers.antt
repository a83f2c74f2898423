-- `columns::clear` meets its contract: it clears one column behind its front. The laws are in proofs/Sweep.antt.
use native.Mathlib.Omega.{arith}
use Rattle.columns.proofs.Sweep.{clear_start, clear_more, clear_done}
use Rattle.columns.proofs.clear.Goals as goal

pub loop-i-init : goal.loop-i-init
loop-i-init g c = clear_start _ _ _ c.requires

pub loop-i-preserved : goal.loop-i-preserved
loop-i-preserved g c = clear_more _ _ _ _ _ c.loop-i.invariant (omega arith)

pub returns : goal.returns
returns g c = rw c.zero-zero.ensures at (clear_done _ _ _ _ _ c.loop-i.invariant (omega arith) c.requires)
