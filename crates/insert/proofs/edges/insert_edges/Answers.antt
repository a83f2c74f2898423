-- `insert::edges::insert_edges` meets its contract: the table follows the strap's second end before its row is stored, and the new row behind it (proofs/TableLaws.antt). Assumes nothing.
use native.Mathlib.Omega.{arith}
use mathlib.Core.Path.{◌∙◌}
use lib.Ieee.{of_bits}
use Rattle.insert.proofs.InsertLaws.{edges_inserted}
use Rattle.insert.proofs.TableLaws.{strap_move_room, strap_append_room, strap_linked}
use Rattle.insert.proofs.edges.insert_edges.Goals as goal

pub move_corner-requires : goal.move_corner-requires
move_corner-requires c = strap_move_room _ _ _ _ c.args.lengths.now c.requires.0 c.requires.1 c.requires.2

pub store_edge-requires : goal.store_edge-requires
store_edge-requires c = record { ends = omega (arith, c.requires.0.here, c.requires.0.room.ends); lengths = omega (arith, c.requires.0.here, c.requires.0.room.lengths) }

pub append_edge-requires : goal.append_edge-requires
append_edge-requires c = record { ends = omega (arith, c.requires.0.room.ends, c.store_edge.auto.ends); lengths = omega (arith, c.requires.0.room.lengths, c.store_edge.auto.lengths) }

pub append_cell-requires : goal.append_cell-requires
append_cell-requires c = strap_append_room _ _ _ _ _ c.requires.0 c.requires.1 c.requires.2 _ _ _ _ _ _ _ _ _ c.move_corner.ensures c.move_corner.auto.table c.half_of-first.ensures
    c.store_edge.ensures c.store_edge.auto.ends c.half_of-second.ensures c.append_edge.ensures (c.append_edge.auto.ends ∙ c.store_edge.auto.ends)

pub shape_of-ends : goal.shape_of-ends
shape_of-ends c = c.append_edge.auto.ends ∙ c.store_edge.auto.ends

pub shape_of-lengths : goal.shape_of-lengths
shape_of-lengths c = c.append_edge.auto.lengths ∙ c.store_edge.auto.lengths

pub shape_of-table : goal.shape_of-table
shape_of-table c = c.append_cell.auto.table ∙ c.move_corner.auto.table

pub returns : goal.returns
unfolding of_bits
returns c = (
  edges_inserted _ _ _ _ _ _ _ _ _ _ c.requires.0 c.half_of-first.ensures c.half_of-second.ensures c.store_edge.ensures c.append_edge.ensures,
  strap_linked _ _ _ _ _ c.requires.0 c.requires.1 c.requires.2 _ _ _ _ _ _ _ _ _ c.move_corner.ensures c.move_corner.auto.table c.half_of-first.ensures
      c.store_edge.ensures c.store_edge.auto.ends c.half_of-second.ensures c.append_edge.ensures (c.append_edge.auto.ends ∙ c.store_edge.auto.ends)
      c.append_cell.auto.table c.append_cell.ensures,
)
