-- `edge_drops::drop_row` meets its contract: the table first, then the blocks (proofs/DropLaws.antt). Assumes nothing.
use Rattle.edge_drops.proofs.DropLaws.{row_room, gone_room, gone_linked}
use Rattle.edge_drops.proofs.drop_row.Goals as goal

-- `edge_drops::drop_row` meets its contract: the table first, then the blocks (proofs/DropLaws.antt). Assumes nothing.
pub drop_cell-requires : goal.drop_cell-requires
drop_cell-requires c = gone_room c.requires

pub close_row-requires : goal.close_row-requires
close_row-requires c = row_room c.requires

pub shape_of-ends : goal.shape_of-ends
shape_of-ends c = c.close_row.auto.ends

pub shape_of-lengths : goal.shape_of-lengths
shape_of-lengths c = c.close_row.auto.lengths

pub shape_of-table : goal.shape_of-table
shape_of-table c = c.drop_cell.auto.table

pub returns : goal.returns
returns c = let E = c.close_row in (E.ensures.edges, gone_linked c.requires _ E.auto.ends E.ensures.moved _ c.drop_cell.auto.table c.drop_cell.ensures)
