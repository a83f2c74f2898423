-- `tear::ways::far_sides` meets its contract: the loop over the rows is `Siding` of proofs/WayLaws.antt. Assumes nothing.
use Prim.Native.Nat.{◌+◌, ◌-◌, ◌≤◌}
use native.Mathlib.Omega.{arith}
use lib.ListN.{length}
use Rattle.tear.proofs.WayLaws.{Siding, siding_start, siding_more, siding_done, row_reads, row_under}
use borrow.Author.Rules.{rules}
use Rattle.tear.proofs.ways.far_sides.Goals as goal

pub rest_point-home-requires : goal.rest_point-home-requires
rest_point-home-requires c = c.requires.v_in

pub rest_point-requires : goal.rest_point-requires
rest_point-requires c = c.requires.w_in

pub loop-i-init : goal.loop-i-init
loop-i-init c = siding_start _ _ _ _ _ _ _

pub overflow_add-b : goal.overflow_add-b
overflow_add-b c = let f = row_reads _ _ _ _ _ c.loop-i.invariant.from c.loop-i-test.true c.requires.verts_long in omega arith

pub offset_bounds-verts-a : goal.offset_bounds-verts-a
offset_bounds-verts-a c = let f = row_reads _ _ _ _ _ c.loop-i.invariant.from c.loop-i-test.true c.requires.verts_long in omega arith

pub slice_bounds-side_of-end : goal.slice_bounds-side_of-end
slice_bounds-side_of-end c = row_reads _ _ _ _ _ c.loop-i.invariant.from c.loop-i-test.true c.requires.verts_long

pub side_of-requires : goal.side_of-requires
side_of-requires c = record { in_block = row_under _ c.args.n c.args.k c.args.verts.now c.requires.corners_in c.loop-i.i (c.loop-i.a + c.args.k - c.loop-i.a) c.loop-i.a c.loop-i-test.true c.loop-i.invariant.from (omega arith) }

pub loop-i-preserved : goal.loop-i-preserved
loop-i-preserved c = siding_more _ _ _ _ _ _ _ _ _ _ c.loop-i.invariant c.loop-i-test.true c.requires.sides_long _ c.side_of.ensures

pub shape_of-sides : goal.shape_of-sides
shape_of-sides c = c.loop-i.invariant.long

pub returns : goal.returns
returns c = siding_done _ _ _ _ _ _ _ _ _ _ _ _ _ c.loop-i.invariant (search rules) c.requires.sides_long c.rest_point-home.ensures c.rest_point.ensures c.sub-dir.ensures
