-- `elements::measure_marked` meets its contract: the invariant is the sum over the elements that were passed. The laws are in proofs/Measures.antt.
use Prim.Native.Nat.{◌+◌, ◌≤◌}
use native.Mathlib.Omega.{arith}
use mathlib.Core.Path.{refl, sym, ◌∙◌}
use lib.ListN.{length}
use lib.Ieee.{of_bits}
use Rattle.elements.proofs.Measures.{row_below, passing_start, passing_reads, passing_skip, passing_take, passing_done}
use Rattle.elements.proofs.measure_marked.Goals as goal
use Rattle.elements.proofs.measure_marked.Goals.{else-all_marked, then-all_marked}

pub loop-i-init : goal.loop-i-init
unfolding of_bits
loop-i-init c = passing_start _ _ _ _ _ _ refl

pub overflow_add-b : goal.overflow_add-b
overflow_add-b c =
    let reads_fit : c.loop-i.a + c.args.k ≤ length c.args.verts.now = passing_reads _ _ _ _ _ _ _ _ c.loop-i.invariant c.loop-i-test.true c.requires.verts_long in omega (arith, reads_fit)

pub offset_bounds-verts-a : goal.offset_bounds-verts-a
offset_bounds-verts-a c =
    let reads_fit : c.loop-i.a + c.args.k ≤ length c.args.verts.now = passing_reads _ _ _ _ _ _ _ _ c.loop-i.invariant c.loop-i-test.true c.requires.verts_long in omega (arith, reads_fit)

pub slice_bounds-all_marked-end : goal.slice_bounds-all_marked-end
slice_bounds-all_marked-end c =
    let reads_fit : c.loop-i.a + c.args.k ≤ length c.args.verts.now = passing_reads _ _ _ _ _ _ _ _ c.loop-i.invariant c.loop-i-test.true c.requires.verts_long in reads_fit

pub all_marked-requires : goal.all_marked-requires
all_marked-requires c = row_below _ _ _ _ _ _ c.requires.verts_below c.loop-i-test.true c.loop-i.invariant.from

pub loop-i-preserved : goal.loop-i-preserved
loop-i-preserved c = let h = c.loop-i-test.true in
    let inv = c.loop-i.invariant in
    let said = sym c.all_marked.ensures in
    elim c.if-all_marked.branch [
      | then-all_marked w ↦ rw w.s-is (passing_take _ _ _ _ _ _ _ _ inv h (said ∙ w.if-all_marked.true))
      | else-all_marked w ↦ rw w.s-is (passing_skip _ _ _ _ _ _ _ _ inv h (said ∙ w.if-all_marked.false))
    ]

pub returns : goal.returns
returns c = passing_done _ _ _ _ _ _ _ _ c.loop-i.invariant (omega arith)
