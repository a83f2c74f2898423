-- `link_changes::raise_links` meets its contract: the columns passed are moved (`Raising` of proofs/Dropped.antt). Assumes nothing.
use Rattle.link_changes.proofs.Dropped.{Raising, raising_start, raising_fits, raising_more, raising_done}
use Prim.Native.Nat.{◌-◌}
use native.Mathlib.Omega.{arith}
use Rattle.link_changes.proofs.raise_links.Goals as goal

pub loop-c-init : goal.loop-c-init
loop-c-init c = raising_start _ _ _ _ _ _

pub loop-c-preserved : goal.loop-c-preserved
loop-c-preserved c = raising_more _ _ _ _ _ _ _ _ _ c.loop-c.invariant c.loop-c-test.true c.requires _ c.raise.auto.table c.raise.ensures

pub shape_of-table : goal.shape_of-table
shape_of-table c = c.loop-c.invariant.long

pub returns : goal.returns
returns c = raising_done _ _ _ _ _ _ _ _ _ c.loop-c.invariant c.loop-c-test.false
