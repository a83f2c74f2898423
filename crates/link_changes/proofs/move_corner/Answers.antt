-- `link_changes::move_corner` meets its contract: the cell is taken out of one chain and put into another (proofs/Corners.antt). Assumes nothing.
use Rattle.link_changes.proofs.Corners.{moving_corner, moving_out, moving_in, moving_done}
use native.Mathlib.Omega.{arith}
use borrow.Author.Rules.{rules}
use Rattle.link_changes.proofs.move_corner.Goals as goal

pub bounds-corners-c : goal.bounds-corners-c
bounds-corners-c c = moving_corner _ _ _ _ _ _ _ _ _ _ c.requires

pub take_out-requires : goal.take_out-requires
take_out-requires c = moving_out _ _ _ _ _ _ _ _ _ _ c.requires

pub put_in-requires : goal.put_in-requires
put_in-requires c = moving_in _ _ _ _ _ _ _ _ _ _ c.requires _ c.take_out.auto.table c.take_out.ensures

pub returns : goal.returns
returns c = moving_done _ _ _ _ _ _ _ _ _ _ c.requires _ c.take_out.auto.table c.take_out.ensures _ c.put_in.ensures
