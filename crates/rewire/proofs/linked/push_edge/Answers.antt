-- `rewire::linked::push_edge` meets its contract: the block first, then the table (proofs/LinkedLaws.antt). Assumes nothing.
use Rattle.rewire.proofs.LinkedLaws.{push_room, push_done}
use native.Mathlib.Omega.{arith}
use borrow.Author.Rules.{rules}
use Rattle.rewire.proofs.linked.push_edge.Goals as goal

-- `rewire::linked::push_edge` meets its contract: the block first, then the table (proofs/LinkedLaws.antt). Assumes nothing.
pub append_edge-requires : goal.append_edge-requires
append_edge-requires c = c.requires.columns

pub append_cell-requires : goal.append_cell-requires
append_cell-requires c = push_room c.requires _ _ _ c.append_edge.auto.ends c.append_edge.ensures

pub shape_of-ends : goal.shape_of-ends
shape_of-ends c = c.append_edge.auto.ends

pub shape_of-lengths : goal.shape_of-lengths
shape_of-lengths c = c.append_edge.auto.lengths

pub shape_of-table : goal.shape_of-table
shape_of-table c = c.append_cell.auto.table

pub returns : goal.returns
returns c = (c.append_edge.ensures, push_done c.requires _ _ _ c.append_edge.auto.ends c.append_edge.ensures c.append_cell.auto.table c.append_cell.ensures)
