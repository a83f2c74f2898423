-- `edge_drops::drop_rest` meets its contract: the removals are `Dropping` of proofs/DropLaws.antt. Assumes nothing.
use native.Mathlib.Omega.{arith}
use Rattle.edge_drops.proofs.DropLaws.{Dropping, dropping_start, dropping_read, dropping_room, dropping_more, dropping_done}
use Rattle.edge_drops.proofs.drop_rest.Goals as goal

pub loop-more-init : goal.loop-more-init
loop-more-init c = dropping_start _ _ _ _ _ _ c.requires.0 c.requires.1

pub offset_bounds-list-more : goal.offset_bounds-list-more
offset_bounds-list-more c = let A = c.args in let P = c.requires in let G = c.loop-more.invariant in omega (arith, dropping_read A.list.now A.n A.s A.ends.now A.lengths.now A.table.now P.0 _ _ _ _ _ G c.loop-more-test.true, c.well_formed)

pub bounds-list-more : goal.bounds-list-more
bounds-list-more c = let A = c.args in let P = c.requires in let G = c.loop-more.invariant in dropping_read A.list.now A.n A.s A.ends.now A.lengths.now A.table.now P.0 _ _ _ _ _ G c.loop-more-test.true

pub drop_row-requires : goal.drop_row-requires
drop_row-requires c = let A = c.args in let P = c.requires in let G = c.loop-more.invariant in dropping_room A.list.now A.n A.s A.ends.now A.lengths.now A.table.now P.0 _ _ _ _ _ G c.loop-more-test.true

pub overflow_sub-left : goal.overflow_sub-left
overflow_sub-left c = let A = c.args in let P = c.requires in let G = c.loop-more.invariant in omega (arith, (dropping_room A.list.now A.n A.s A.ends.now A.lengths.now A.table.now P.0 _ _ _ _ _ G c.loop-more-test.true).here)

pub loop-more-preserved : goal.loop-more-preserved
loop-more-preserved c = let A = c.args in let P = c.requires in let G = c.loop-more.invariant in let D = c.drop_row in dropping_more A.list.now A.n A.s A.ends.now A.lengths.now A.table.now P.0 _ _ _ _ _ G c.loop-more-test.true _ _ _ D.ensures.0 D.ensures.1 D.auto.ends D.auto.lengths D.auto.table

pub shape_of-ends : goal.shape_of-ends
shape_of-ends c = c.loop-more.invariant.rows.ends_long

pub shape_of-lengths : goal.shape_of-lengths
shape_of-lengths c = c.loop-more.invariant.rows.lengths_long

pub shape_of-table : goal.shape_of-table
shape_of-table c = c.loop-more.invariant.table_long

pub returns : goal.returns
returns c = let A = c.args in let P = c.requires in let G = c.loop-more.invariant in dropping_done A.list.now A.n A.s A.ends.now A.lengths.now A.table.now P.0 _ _ _ _ _ G (omega (arith, c.loop-more-test.false))
