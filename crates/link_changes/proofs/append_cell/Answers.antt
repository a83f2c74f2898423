-- `link_changes::append_cell` meets its contract: the invariant is the new cell in the chains of the corners passed (`Appending` of proofs/Appended.antt). Assumes nothing.
use Rattle.link_changes.proofs.Appended.{Appending, appending_start, appending_column, appending_corner, appending_room, appending_more, appending_done}
use Rattle.columns.specs.Block.{cell}
use Prim.Native.Nat.{◌-◌}
use lib.ListN.{length}
use native.Mathlib.Omega.{arith}
use Rattle.link_changes.proofs.append_cell.Goals as goal

pub loop-c-init : goal.loop-c-init
loop-c-init c = appending_start _ _ _ _ _ _ _ c.requires

pub bounds-corners-o : goal.bounds-corners-o
bounds-corners-o c = appending_corner _ _ _ _ _ _ _ c.requires _ _ _ c.loop-c.invariant c.loop-c-test.true

pub put_in-requires : goal.put_in-requires
put_in-requires c = appending_room _ _ _ _ _ _ _ c.requires _ _ _ c.loop-c.invariant c.loop-c-test.true

pub loop-c-preserved : goal.loop-c-preserved
loop-c-preserved c = appending_more _ _ _ _ _ _ _ c.requires _ _ _ c.loop-c.invariant c.loop-c-test.true _ c.put_in.auto.table c.put_in.ensures

pub shape_of-table : goal.shape_of-table
shape_of-table c = c.loop-c.invariant.long

pub returns : goal.returns
returns c = appending_done _ _ _ _ _ _ _ c.requires _ _ _ c.loop-c.invariant c.loop-c-test.false
