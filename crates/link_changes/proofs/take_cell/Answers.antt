-- `link_changes::take_cell` meets its contract: the invariant is the cell out of the chains of the corners passed (`Leaving` of proofs/Dropped.antt). Assumes nothing.
use Rattle.link_changes.proofs.Dropped.{Leaving, leaving_start, leaving_column, leaving_corner, leaving_room, leaving_more, leaving_done}
use Rattle.columns.specs.Block.{cell}
use Prim.Native.Nat.{◌-◌}
use lib.ListN.{length}
use native.Mathlib.Omega.{arith}
use Rattle.link_changes.proofs.take_cell.Goals as goal

pub loop-c-init : goal.loop-c-init
loop-c-init c = leaving_start _ _ _ _ _ _ _ _ c.requires

pub bounds-corners-o : goal.bounds-corners-o
bounds-corners-o c = leaving_corner _ _ _ _ _ _ _ _ c.requires _ _ _ c.loop-c.invariant c.loop-c-test.true

pub take_out-requires : goal.take_out-requires
take_out-requires c = leaving_room _ _ _ _ _ _ _ _ c.requires _ _ _ c.loop-c.invariant c.loop-c-test.true

pub loop-c-preserved : goal.loop-c-preserved
loop-c-preserved c = leaving_more _ _ _ _ _ _ _ _ c.requires _ _ _ c.loop-c.invariant c.loop-c-test.true _ c.take_out.auto.table c.take_out.ensures

pub shape_of-table : goal.shape_of-table
shape_of-table c = c.loop-c.invariant.long

pub returns : goal.returns
returns c = leaving_done _ _ _ _ _ _ _ _ c.requires _ _ _ c.loop-c.invariant c.loop-c-test.false
