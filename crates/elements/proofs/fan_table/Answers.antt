-- `elements::fan_table` meets its contract: the invariant is the table of the rows among those passed that hold v. The laws are in proofs/Fans.antt.
use Prim.Native.Nat.{◌+◌, ◌≤◌}
use native.Mathlib.Omega.{arith}
use mathlib.Core.Path.{sym, ◌∙◌}
use lib.ListN.{length}
use Rattle.elements.proofs.Fans.{fanning_start, fanning_reads, fanning_writes, fanning_skip, fanning_take, fanning_done}
use Rattle.elements.proofs.fan_table.Goals as goal
use Rattle.elements.proofs.fan_table.Goals.{else-stands_in, then-stands_in}

pub loop-i-init : goal.loop-i-init
loop-i-init c = fanning_start _ _ _ _ _ _ _ _ _

pub overflow_add-b : goal.overflow_add-b
overflow_add-b c =
    let reads_fit : c.loop-i.a + c.args.k ≤ length c.args.verts.now = fanning_reads _ _ _ _ _ _ _ _ _ _ _ _ _ _ _ _ c.loop-i.invariant c.loop-i-test.true c.requires.verts in omega (arith, reads_fit)

pub offset_bounds-verts-a : goal.offset_bounds-verts-a
offset_bounds-verts-a c =
    let reads_fit : c.loop-i.a + c.args.k ≤ length c.args.verts.now = fanning_reads _ _ _ _ _ _ _ _ _ _ _ _ _ _ _ _ c.loop-i.invariant c.loop-i-test.true c.requires.verts in omega (arith, reads_fit)

pub slice_bounds-stands_in-end : goal.slice_bounds-stands_in-end
slice_bounds-stands_in-end c =
    let reads_fit : c.loop-i.a + c.args.k ≤ length c.args.verts.now = fanning_reads _ _ _ _ _ _ _ _ _ _ _ _ _ _ _ _ c.loop-i.invariant c.loop-i-test.true c.requires.verts in reads_fit

pub overflow_add-e : goal.overflow_add-e
overflow_add-e c =
    let writes_fit : c.loop-i.o + c.args.k ≤ length c.loop-i.fan_verts = fanning_writes _ _ _ _ _ _ _ _ _ _ _ _ _ _ _ _ c.loop-i.invariant c.loop-i-test.true c.requires.fan_verts in omega (arith, writes_fit)

pub offset_bounds-verts-a-then-stands_in : goal.offset_bounds-verts-a-then-stands_in
offset_bounds-verts-a-then-stands_in c =
    let reads_fit : c.loop-i.a + c.args.k ≤ length c.args.verts.now = fanning_reads _ _ _ _ _ _ _ _ _ _ _ _ _ _ _ _ c.loop-i.invariant c.loop-i-test.true c.requires.verts in omega (arith, reads_fit)

pub slice_bounds-copy-end : goal.slice_bounds-copy-end
slice_bounds-copy-end c =
    let reads_fit : c.loop-i.a + c.args.k ≤ length c.args.verts.now = fanning_reads _ _ _ _ _ _ _ _ _ _ _ _ _ _ _ _ c.loop-i.invariant c.loop-i-test.true c.requires.verts in reads_fit

pub offset_bounds-fan_verts-o : goal.offset_bounds-fan_verts-o
offset_bounds-fan_verts-o c =
    let writes_fit : c.loop-i.o + c.args.k ≤ length c.loop-i.fan_verts = fanning_writes _ _ _ _ _ _ _ _ _ _ _ _ _ _ _ _ c.loop-i.invariant c.loop-i-test.true c.requires.fan_verts in omega (arith, writes_fit)

pub loop-i-preserved : goal.loop-i-preserved
loop-i-preserved c =
    let writes_fit : c.loop-i.o + c.args.k ≤ length c.loop-i.fan_verts = fanning_writes _ _ _ _ _ _ _ _ _ _ _ _ _ _ _ _ c.loop-i.invariant c.loop-i-test.true c.requires.fan_verts in
    let reads_fit : c.loop-i.a + c.args.k ≤ length c.args.verts.now = fanning_reads _ _ _ _ _ _ _ _ _ _ _ _ _ _ _ _ c.loop-i.invariant c.loop-i-test.true c.requires.verts in let inv = c.loop-i.invariant in
    let said = sym c.stands_in.ensures in
    elim c.if-stands_in.branch [
      | then-stands_in w ↦ rw (w.fan_numbers-is, w.fan_verts-is, w.fan_measures-is, w.r-is, w.o-is)
          (fanning_take _ _ _ _ _ _ _ _ _ _ _ _ _ _ _ _ inv c.loop-i-test.true _ (writes_fit) (reads_fit) w.copy.auto.dst w.copy.ensures (said ∙ w.if-stands_in.true) (omega arith) (omega arith))
      | else-stands_in w ↦ rw (w.fan_numbers-is, w.fan_verts-is, w.fan_measures-is, w.r-is, w.o-is) (fanning_skip _ _ _ _ _ _ _ _ _ _ _ _ _ _ _ _ inv c.loop-i-test.true (said ∙ w.if-stands_in.false))
    ]

pub shape_of-fan_numbers : goal.shape_of-fan_numbers
shape_of-fan_numbers c = c.loop-i.invariant.numbers_long

pub shape_of-fan_verts : goal.shape_of-fan_verts
shape_of-fan_verts c = c.loop-i.invariant.verts_long

pub shape_of-fan_measures : goal.shape_of-fan_measures
shape_of-fan_measures c = c.loop-i.invariant.measures_long

pub returns : goal.returns
returns c = record { fan_tabled = fanning_done _ _ _ _ _ _ _ _ _ _ _ _ _ _ _ _ c.loop-i.invariant (omega arith); upper_bound = omega arith }
