-- `edge_drops::close_rows` meets its contract: the removals are `Closing` of proofs/DropLaws.antt. Assumes nothing.
use Prim.Native.Nat.{◌+◌}
use native.Mathlib.Omega.{arith}
use Rattle.edge_drops.specs.Parted.{listed}
use Rattle.edge_drops.proofs.DropLaws.{Closing, closing_start, closing_read, closing_room, closing_more, closing_done}
use Rattle.edge_drops.proofs.PartedLaws.{listing_room, rows_closed}
use Rattle.edge_drops.proofs.close_rows.Goals as goal

pub loop-more-init : goal.loop-more-init
loop-more-init c = let A = c.args in closing_start A.list.now _ _ A.ends.now A.lengths.now (listing_room c.requires)

pub offset_bounds-list-more : goal.offset_bounds-list-more
offset_bounds-list-more c = let A = c.args in omega (arith, closing_read A.list.now _ _ A.ends.now A.lengths.now (listing_room c.requires) _ _ _ _ c.loop-more.invariant c.loop-more-test.true, c.well_formed)

pub bounds-list-more : goal.bounds-list-more
bounds-list-more c = let A = c.args in closing_read A.list.now _ _ A.ends.now A.lengths.now (listing_room c.requires) _ _ _ _ c.loop-more.invariant c.loop-more-test.true

pub close_row-requires : goal.close_row-requires
close_row-requires c = let A = c.args in closing_room A.list.now _ _ A.ends.now A.lengths.now (listing_room c.requires) _ _ _ _ c.loop-more.invariant c.loop-more-test.true

pub overflow_sub-m : goal.overflow_sub-m
overflow_sub-m c = let A = c.args in omega (arith, (closing_room A.list.now _ _ A.ends.now A.lengths.now (listing_room c.requires) _ _ _ _ c.loop-more.invariant c.loop-more-test.true).here)

pub loop-more-preserved : goal.loop-more-preserved
loop-more-preserved c = let A = c.args in let D = c.close_row in closing_more A.list.now _ _ A.ends.now A.lengths.now (listing_room c.requires) _ _ _ _ c.loop-more.invariant c.loop-more-test.true _ _ D.ensures.edges D.auto.ends D.auto.lengths

pub shape_of-ends : goal.shape_of-ends
shape_of-ends c = c.loop-more.invariant.ends_long

pub shape_of-lengths : goal.shape_of-lengths
shape_of-lengths c = c.loop-more.invariant.lengths_long

pub returns : goal.returns
returns c = let A = c.args in let d = closing_done A.list.now _ _ A.ends.now A.lengths.now (listing_room c.requires) _ _ _ _ c.loop-more.invariant (omega (arith, c.loop-more-test.false)) in rows_closed A.left _ A.ends.now A.lengths.now _ _ A.list.now d.0 d.1
