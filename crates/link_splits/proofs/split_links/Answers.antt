-- `link_splits::split_links` meets its contract: the invariant is the cells of the fan that are linked anew (`Moving` of proofs/Moved.antt). Assumes nothing.
use native.Mathlib.Omega.{arith}
use mathlib.Core.Path.{◌∙◌}
use lib.ListN.{length-set}
use Rattle.columns.specs.Block.{cell}
use Rattle.link_splits.proofs.Moved.{Moving, split_start, split_row, split_small, split_copy_small, split_group, split_head, split_link, split_long, split_more, split_done}
use Rattle.link_splits.proofs.split_links.Goals as goal

pub offset_bounds-table-v : goal.offset_bounds-table-v
offset_bounds-table-v c = let P = c.requires in omega (arith, P.room.table, P.here, P.most)

pub bounds-table-v : goal.bounds-table-v
bounds-table-v c = let P = c.requires in omega (arith, P.room.table, P.here, P.most)

pub loop-i-init : goal.loop-i-init
loop-i-init c = split_start _ _ _ _ _ _ _ _ _ _ _ c.requires

pub bounds-groups-i : goal.bounds-groups-i
bounds-groups-i c = split_group _ _ _ _ _ _ _ _ _ _ _ c.requires _ _ c.loop-i.invariant c.loop-i-test.true

pub copy_for-w-requires : goal.copy_for-w-requires
copy_for-w-requires c = split_copy_small _ _ _ _ _ _ _ _ _ _ _ c.requires _ _ c.loop-i.invariant c.loop-i-test.true

pub corner_at-c-requires : goal.corner_at-c-requires
corner_at-c-requires c = split_row _ _ _ _ _ _ _ _ _ _ _ c.requires _ _ c.loop-i.invariant c.loop-i-test.true

pub offset_bounds-table-w : goal.offset_bounds-table-w
offset_bounds-table-w c = let h = split_head _ _ _ _ _ _ _ _ _ _ _ c.requires _ _ c.loop-i.invariant c.loop-i-test.true in let l = split_long _ _ _ _ _ _ _ _ _ _ _ c.requires _ _ c.loop-i.invariant c.loop-i-test.true in omega (arith, h, l, c.copy_for-w.ensures)

pub bounds-table-w : goal.bounds-table-w
bounds-table-w c = rw c.copy_for-w.ensures (split_head _ _ _ _ _ _ _ _ _ _ _ c.requires _ _ c.loop-i.invariant c.loop-i-test.true)

pub overflow_mul-table : goal.overflow_mul-table
overflow_mul-table c = let h = split_link _ _ _ _ _ _ _ _ _ _ _ c.requires _ _ c.loop-i.invariant c.loop-i-test.true _ c.corner_at-c.ensures in let l = split_long _ _ _ _ _ _ _ _ _ _ _ c.requires _ _ c.loop-i.invariant c.loop-i-test.true in omega (arith, h, l)

pub overflow_add-table : goal.overflow_add-table
overflow_add-table c = let h = split_link _ _ _ _ _ _ _ _ _ _ _ c.requires _ _ c.loop-i.invariant c.loop-i-test.true _ c.corner_at-c.ensures in let l = split_long _ _ _ _ _ _ _ _ _ _ _ c.requires _ _ c.loop-i.invariant c.loop-i-test.true in omega (arith, h, l)

pub overflow_add-table-in-loop-i : goal.overflow_add-table-in-loop-i
overflow_add-table-in-loop-i c = let h = split_link _ _ _ _ _ _ _ _ _ _ _ c.requires _ _ c.loop-i.invariant c.loop-i-test.true _ c.corner_at-c.ensures in let l = split_long _ _ _ _ _ _ _ _ _ _ _ c.requires _ _ c.loop-i.invariant c.loop-i-test.true in omega (arith, h, l)

pub offset_bounds-table-heads : goal.offset_bounds-table-heads
offset_bounds-table-heads c = let h = split_link _ _ _ _ _ _ _ _ _ _ _ c.requires _ _ c.loop-i.invariant c.loop-i-test.true _ c.corner_at-c.ensures in let l = split_long _ _ _ _ _ _ _ _ _ _ _ c.requires _ _ c.loop-i.invariant c.loop-i-test.true in omega (arith, h, l)

pub bounds-table-heads : goal.bounds-table-heads
bounds-table-heads c = split_link _ _ _ _ _ _ _ _ _ _ _ c.requires _ _ c.loop-i.invariant c.loop-i-test.true _ c.corner_at-c.ensures

pub overflow_add-table-in-loop-i-2 : goal.overflow_add-table-in-loop-i-2
overflow_add-table-in-loop-i-2 c = let h = split_small _ _ _ _ _ _ _ _ _ _ _ c.requires _ _ c.loop-i.invariant c.loop-i-test.true in omega (arith, h)

pub overflow_cast-table : goal.overflow_cast-table
overflow_cast-table c = let h = split_small _ _ _ _ _ _ _ _ _ _ _ c.requires _ _ c.loop-i.invariant c.loop-i-test.true in omega (arith, h)

pub offset_bounds-table-w-in-loop-i : goal.offset_bounds-table-w-in-loop-i
offset_bounds-table-w-in-loop-i c = let h = split_head _ _ _ _ _ _ _ _ _ _ _ c.requires _ _ c.loop-i.invariant c.loop-i-test.true in let l = split_long _ _ _ _ _ _ _ _ _ _ _ c.requires _ _ c.loop-i.invariant c.loop-i-test.true in omega (arith, h, l, c.copy_for-w.ensures)

pub bounds-table-w-in-loop-i : goal.bounds-table-w-in-loop-i
bounds-table-w-in-loop-i c = let h = split_head _ _ _ _ _ _ _ _ _ _ _ c.requires _ _ c.loop-i.invariant c.loop-i-test.true in simp length-set (omega (arith, h, c.copy_for-w.ensures))

pub loop-i-preserved : goal.loop-i-preserved
loop-i-preserved c = split_more _ _ _ _ _ _ _ _ _ _ _ c.requires _ _ c.loop-i.invariant c.loop-i-test.true _ c.corner_at-c.ensures _ c.copy_for-w.ensures

pub shape_of-table : goal.shape_of-table
shape_of-table c = c.loop-i.invariant.long ∙ simp length-set

pub returns : goal.returns
returns c = split_done _ _ _ _ _ _ _ _ _ _ _ c.requires _ _ c.loop-i.invariant (omega arith)
