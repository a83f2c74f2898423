-- `links::build_links` meets its contract: the invariant is the table of the cells passed (`Building` of proofs/Built.antt). Assumes nothing.
use Rattle.links.proofs.Built.{building_start, building_row, building_more, building_done}
use mathlib.Core.Path.{refl}
use native.Mathlib.Omega.{arith}
use Rattle.links.proofs.build_links.Goals as goal

pub loop-i-init : goal.loop-i-init
loop-i-init c = building_start _ _ _ _ _ _ _ c.requires.0 _ c.requires.1 refl

pub link_cell-requires : goal.link_cell-requires
link_cell-requires c = building_row _ _ _ _ _ _ _ c.requires.0 _ _ c.loop-i.invariant c.loop-i-test.true

pub loop-i-preserved : goal.loop-i-preserved
loop-i-preserved c = building_more _ _ _ _ _ _ _ c.requires.0 _ _ _ c.loop-i.invariant c.loop-i-test.true c.link_cell.ensures c.link_cell.auto.table

pub shape_of-table : goal.shape_of-table
shape_of-table c = c.loop-i.invariant.long

pub returns : goal.returns
returns c = building_done _ _ _ _ _ _ _ c.requires.0 _ _ c.loop-i.invariant (omega arith)
