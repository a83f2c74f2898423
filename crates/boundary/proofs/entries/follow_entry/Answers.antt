-- `boundary::entries::follow_entry` meets its contract: the copy that stands for v, and the row turned to it (proofs/BoundaryLaws.antt). Assumes nothing.
use Rattle.boundary.proofs.BoundaryLaws.{entry_in, entry_named, entry_turn, entry_followed}
use native.Mathlib.Omega.{arith}
use Rattle.boundary.proofs.entries.follow_entry.Goals as goal

-- `boundary::entries::follow_entry` meets its contract: the copy that stands for v, and the row turned to it (proofs/BoundaryLaws.antt). Assumes nothing.
pub overflow_add-j : goal.overflow_add-j
overflow_add-j c = let h = entry_in c.requires in omega (arith, h)

pub offset_bounds-outline-i : goal.offset_bounds-outline-i
offset_bounds-outline-i c = let h = entry_in c.requires in omega (arith, h)

pub bounds-outline-i : goal.bounds-outline-i
bounds-outline-i c = let h = entry_in c.requires in omega (arith, h)

pub offset_bounds-outline-j : goal.offset_bounds-outline-j
offset_bounds-outline-j c = let h = entry_in c.requires in omega (arith, h)

pub bounds-outline-j : goal.bounds-outline-j
bounds-outline-j c = let h = entry_in c.requires in omega (arith, h)

pub side_copy-w-requires : goal.side_copy-w-requires
side_copy-w-requires c = (c.requires.side, c.requires.copies, entry_named c.requires)

pub turn_row-requires : goal.turn_row-requires
turn_row-requires c = entry_turn c.requires c.side_copy-w.ensures

pub shape_of-outline : goal.shape_of-outline
shape_of-outline c = c.turn_row.auto.block

pub shape_of-table : goal.shape_of-table
shape_of-table c = c.turn_row.auto.table

pub returns : goal.returns
returns c = (entry_followed c.requires c.side_copy-w.ensures c.turn_row.ensures.0, c.turn_row.ensures.1)
