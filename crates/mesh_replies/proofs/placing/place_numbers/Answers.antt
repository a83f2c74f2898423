-- `mesh_replies::placing::place_numbers` meets its contract: it reads each column to its place. Assumes nothing.
use Prim.Native.Nat.{◌+◌, ◌*◌, ◌≤◌}
use native.Mathlib.Omega.{arith}
use lib.ListN.{length}
use Rattle.columns.proofs.Blocks.{block_copy_start, block_copy_done}
use Rattle.mesh_replies.proofs.Places.{numbers_lie, numbers_more}
use Rattle.mesh_replies.proofs.placing.place_numbers.Goals as goal

pub loop-c-init : goal.loop-c-init
loop-c-init c = block_copy_start _ _ _ _ _ _

pub overflow_add-e : goal.overflow_add-e
overflow_add-e c =
    let lie : (c.loop-c.o + c.args.stride ≤ length c.loop-c.block)
    × (c.loop-c.a + c.args.n ≤ c.args.width * c.args.n) = let pre = c.requires in numbers_lie _ _ _ _ _ _ _ _ _ _ c.loop-c.invariant c.loop-c-test.true pre.1 pre.0 in omega (arith, (lie).0)

pub overflow_add-at : goal.overflow_add-at
overflow_add-at c =
    let lie : (c.loop-c.o + c.args.stride ≤ length c.loop-c.block)
    × (c.loop-c.a + c.args.n ≤ c.args.width * c.args.n) = let pre = c.requires in numbers_lie _ _ _ _ _ _ _ _ _ _ c.loop-c.invariant c.loop-c-test.true pre.1 pre.0 in omega (arith, (lie).1)

pub offset_bounds-block-o : goal.offset_bounds-block-o
offset_bounds-block-o c =
    let lie : (c.loop-c.o + c.args.stride ≤ length c.loop-c.block)
    × (c.loop-c.a + c.args.n ≤ c.args.width * c.args.n) = let pre = c.requires in numbers_lie _ _ _ _ _ _ _ _ _ _ c.loop-c.invariant c.loop-c-test.true pre.1 pre.0 in omega (arith, (lie).0)

pub slice_bounds-numbers_into-end : goal.slice_bounds-numbers_into-end
slice_bounds-numbers_into-end c =
    let lie : (c.loop-c.o + c.args.stride ≤ length c.loop-c.block)
    × (c.loop-c.a + c.args.n ≤ c.args.width * c.args.n) = let pre = c.requires in numbers_lie _ _ _ _ _ _ _ _ _ _ c.loop-c.invariant c.loop-c-test.true pre.1 pre.0 in (lie).0

pub numbers_into-requires : goal.numbers_into-requires
numbers_into-requires c =
    let lie : (c.loop-c.o + c.args.stride ≤ length c.loop-c.block)
    × (c.loop-c.a + c.args.n ≤ c.args.width * c.args.n) = let pre = c.requires in numbers_lie _ _ _ _ _ _ _ _ _ _ c.loop-c.invariant c.loop-c-test.true pre.1 pre.0 in (omega (arith, (lie).1), omega (arith, c.numbers_into-arg-1.given.1))

pub overflow_add-a : goal.overflow_add-a
overflow_add-a c =
    let lie : (c.loop-c.o + c.args.stride ≤ length c.loop-c.block)
    × (c.loop-c.a + c.args.n ≤ c.args.width * c.args.n) = let pre = c.requires in numbers_lie _ _ _ _ _ _ _ _ _ _ c.loop-c.invariant c.loop-c-test.true pre.1 pre.0 in omega (arith, (lie).1)

pub loop-c-preserved : goal.loop-c-preserved
loop-c-preserved c =
    let pre = c.requires in
    let call = c.numbers_into in
    numbers_more _ _ _ _ _ _ _ _ _ _ c.loop-c.invariant c.loop-c-test.true pre.1 pre.0 _ call.ensures call.auto.out

pub shape_of-block : goal.shape_of-block
shape_of-block c = c.loop-c.invariant.long

pub returns : goal.returns
returns c = block_copy_done _ _ _ _ _ _ _ _ _ _ c.loop-c.invariant c.loop-c-test.false
