-- `rewire::linked::move_end` meets its contract: nothing is done where w is v, else the table first and the block behind it (proofs/LinkedLaws.antt). Assumes nothing.
use Rattle.rewire.proofs.LinkedLaws.{end_row, end_kept, end_room, end_done}
use native.Mathlib.Omega.{arith}
use borrow.Author.Rules.{rules}
use Rattle.rewire.proofs.linked.move_end.Goals as goal

-- `rewire::linked::move_end` meets its contract: nothing is done where w is v, else the table first and the block behind it (proofs/LinkedLaws.antt). Assumes nothing.
pub returns-then-w-v : goal.returns-then-w-v
returns-then-w-v c = end_kept c.requires c.if-w-v.true

pub corner_at-c-requires : goal.corner_at-c-requires
corner_at-c-requires c = end_row c.requires

pub move_corner-requires : goal.move_corner-requires
move_corner-requires c = end_room c.requires c.if-w-v.false c.corner_at-c.ensures

pub shape_of-ends : goal.shape_of-ends
shape_of-ends c = c.move_ends.auto.ends

pub shape_of-table : goal.shape_of-table
shape_of-table c = c.move_corner.auto.table

pub returns : goal.returns
returns c = (c.move_ends.ensures, end_done c.requires c.if-w-v.false c.corner_at-c.ensures _ _ c.move_ends.auto.ends c.move_corner.auto.table c.move_ends.ensures c.move_corner.ensures)
