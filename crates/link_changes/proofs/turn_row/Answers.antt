-- `link_changes::turn_row` meets its contract: nothing is done where w is v, else the table first and the block behind it (proofs/Edged.antt). Assumes nothing.
use Rattle.link_changes.proofs.Edged.{turn_row, turn_kept, turn_room, turn_place, turn_done}
use native.Mathlib.Omega.{arith}
use borrow.Author.Rules.{rules}
use Rattle.link_changes.proofs.turn_row.Goals as goal

-- `link_changes::turn_row` meets its contract: nothing is done where w is v, else the table first and the block behind it (proofs/Edged.antt). Assumes nothing.
pub returns-then-w-v : goal.returns-then-w-v
returns-then-w-v c = turn_kept c.requires c.if-w-v.true

pub corner_at-c-requires : goal.corner_at-c-requires
corner_at-c-requires c = turn_row c.requires

pub move_corner-requires : goal.move_corner-requires
move_corner-requires c = turn_room c.requires c.if-w-v.false c.corner_at-c.ensures

pub overflow_mul-block : goal.overflow_mul-block
overflow_mul-block c = let h = turn_place c.requires c.if-w-v.false c.corner_at-c.ensures in omega (arith, h)

pub overflow_add-block : goal.overflow_add-block
overflow_add-block c = let h = turn_place c.requires c.if-w-v.false c.corner_at-c.ensures in omega (arith, h)

pub offset_bounds-block-c : goal.offset_bounds-block-c
offset_bounds-block-c c = let h = turn_place c.requires c.if-w-v.false c.corner_at-c.ensures in omega (arith, h)

pub bounds-block-c : goal.bounds-block-c
bounds-block-c c = turn_place c.requires c.if-w-v.false c.corner_at-c.ensures

pub shape_of-table : goal.shape_of-table
shape_of-table c = c.move_corner.auto.table

pub returns : goal.returns
returns c = turn_done c.requires c.if-w-v.false c.corner_at-c.ensures c.move_corner.auto.table c.move_corner.ensures
