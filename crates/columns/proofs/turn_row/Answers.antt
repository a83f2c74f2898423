-- `columns::turn_row` meets its contract. The laws are in proofs/RowLaws.antt. Assumes nothing.
use Prim.Native.Nat.{◌+◌, ◌≤◌}
use native.Mathlib.Omega.{arith}
use lib.ListN.{length}
use Rattle.columns.proofs.RowLaws.{turn_start, turn_fits, turn_stored, turn_left, turn_done}
use Rattle.columns.proofs.turn_row.Goals as goal
use Rattle.columns.proofs.turn_row.Goals.{else-s-o, then-s-o}

pub loop-c-init : goal.loop-c-init
loop-c-init c = turn_start _ _ _ _ _ _

pub overflow_add-o : goal.overflow_add-o
overflow_add-o c =
    let fits : c.loop-c.o + c.args.size ≤ length c.loop-c.s = turn_fits _ _ _ _ _ _ _ _ _ c.loop-c.invariant c.loop-c-test.true c.requires in omega (arith, fits, c.requires.here)

pub offset_bounds-s-o : goal.offset_bounds-s-o
offset_bounds-s-o c =
    let fits : c.loop-c.o + c.args.size ≤ length c.loop-c.s = turn_fits _ _ _ _ _ _ _ _ _ c.loop-c.invariant c.loop-c-test.true c.requires in omega (arith, fits, c.requires.here)

pub bounds-s-o : goal.bounds-s-o
bounds-s-o c =
    let fits : c.loop-c.o + c.args.size ≤ length c.loop-c.s = turn_fits _ _ _ _ _ _ _ _ _ c.loop-c.invariant c.loop-c-test.true c.requires in omega (arith, fits, c.requires.here)

pub overflow_add-s : goal.overflow_add-s
overflow_add-s c =
    let fits : c.loop-c.o + c.args.size ≤ length c.loop-c.s = turn_fits _ _ _ _ _ _ _ _ _ c.loop-c.invariant c.loop-c-test.true c.requires in omega (arith, fits, c.requires.here)

pub offset_bounds-s-o-then-s-o : goal.offset_bounds-s-o-then-s-o
offset_bounds-s-o-then-s-o c =
    let fits : c.loop-c.o + c.args.size ≤ length c.loop-c.s = turn_fits _ _ _ _ _ _ _ _ _ c.loop-c.invariant c.loop-c-test.true c.requires in omega (arith, fits, c.requires.here)

pub bounds-s-o-then-s-o : goal.bounds-s-o-then-s-o
bounds-s-o-then-s-o c =
    let fits : c.loop-c.o + c.args.size ≤ length c.loop-c.s = turn_fits _ _ _ _ _ _ _ _ _ c.loop-c.invariant c.loop-c-test.true c.requires in omega (arith, fits, c.requires.here)

pub overflow_add-o-in-loop-c : goal.overflow_add-o-in-loop-c
overflow_add-o-in-loop-c c =
    let fits : c.loop-c.o + c.args.size ≤ length c.loop-c.s = turn_fits _ _ _ _ _ _ _ _ _ c.loop-c.invariant c.loop-c-test.true c.requires in omega (arith, fits)

pub loop-c-preserved : goal.loop-c-preserved
loop-c-preserved c =
    let A = c.args in
    let L = c.loop-c in
    let P = c.requires in
    let k = c.loop-c-test.true in
    elim c.if-s-o.branch [
      | then-s-o w ↦ rw w.s-is (turn_stored A.k A.size A.i A.v A.w _ _ _ _ L.invariant k P w.if-s-o.true)
      | else-s-o w ↦ rw w.s-is (turn_left A.k A.size A.i A.v A.w _ _ _ _ L.invariant k P w.if-s-o.false)
    ]

pub shape_of-s : goal.shape_of-s
shape_of-s c = c.loop-c.invariant.long

pub returns : goal.returns
returns c = turn_done _ _ _ _ _ _ _ _ _ c.loop-c.invariant c.loop-c-test.false
