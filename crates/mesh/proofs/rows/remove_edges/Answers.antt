-- `mesh::rows::remove_edges` meets its contract: a turn leaves out a marked edge, and moves those up to the next in both blocks. Assumes nothing.
use lib.Ieee.{nan}
use native.Mathlib.Omega.{arith}
use Rattle.mesh.proofs.Lists.{removing_start, removing_more, removing_done}
use Rattle.mesh.proofs.rows.remove_edges.Goals as goal

pub next_marked-r-requires : goal.next_marked-r-requires
next_marked-r-requires c = (omega arith, c.requires.0)

pub loop-r-init : goal.loop-r-init
loop-r-init c = removing_start _ _ _ _ _ c.next_marked-r.ensures

pub next_marked-b-requires : goal.next_marked-b-requires
next_marked-b-requires c = (omega (arith, c.loop-r-test.true), c.requires.0)

pub overflow_sub-len : goal.overflow_sub-len
overflow_sub-len c = c.next_marked-b.ensures.above

pub shift_block-requires : goal.shift_block-requires
shift_block-requires c =
    let next = c.next_marked-b.ensures in
    let inv = c.loop-r.invariant in
    (omega (arith, c.loop-r.invariant.rows.within), omega (arith, next.above, next.below, c.requires.1.ends), omega (arith, c.loop-r.invariant.ends_long))

pub loop-r-preserved : goal.loop-r-preserved
loop-r-preserved c =
    let ends = c.shift_block in
    let lengths = c.shift_block-in-loop-r in
    removing_more _ _ _ _ _ _ _ _ _ _ _ c.loop-r.invariant (omega arith) c.next_marked-b.ensures c.requires.1 (ends.ensures 0) (lengths.ensures nan) ends.auto.s lengths.auto.s

pub shape_of-ends : goal.shape_of-ends
shape_of-ends c = c.loop-r.invariant.ends_long

pub shape_of-lengths : goal.shape_of-lengths
shape_of-lengths c = c.loop-r.invariant.lengths_long

pub returns : goal.returns
returns c = removing_done _ _ _ _ _ _ _ _ c.loop-r.invariant c.loop-r-test.false
