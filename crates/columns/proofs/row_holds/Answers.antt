-- `columns::row_holds` meets its contract. The laws are in proofs/RowLaws.antt. Assumes nothing.
use Prim.Native.Nat.{◌+◌, ◌≤◌}
use native.Mathlib.Omega.{arith}
use lib.ListN.{length}
use Rattle.columns.proofs.RowLaws.{look_start, look_fits, look_found, look_more, look_end}
use Rattle.columns.proofs.row_holds.Goals as goal

pub loop-c-init : goal.loop-c-init
loop-c-init c = look_start _ _ _ _ _ c.requires

pub overflow_add-o : goal.overflow_add-o
overflow_add-o c =
    let fits : c.loop-c.o + c.args.size ≤ length c.args.s.now = look_fits _ _ _ _ _ c.requires _ _ c.loop-c.invariant c.loop-c-test.true in omega (arith, fits, c.requires.here)

pub offset_bounds-s-o : goal.offset_bounds-s-o
offset_bounds-s-o c =
    let fits : c.loop-c.o + c.args.size ≤ length c.args.s.now = look_fits _ _ _ _ _ c.requires _ _ c.loop-c.invariant c.loop-c-test.true in omega (arith, fits, c.requires.here)

pub bounds-s-o : goal.bounds-s-o
bounds-s-o c =
    let fits : c.loop-c.o + c.args.size ≤ length c.args.s.now = look_fits _ _ _ _ _ c.requires _ _ c.loop-c.invariant c.loop-c-test.true in omega (arith, fits, c.requires.here)

pub returns-then-s-o : goal.returns-then-s-o
returns-then-s-o c = look_found _ _ _ _ _ c.requires _ _ c.loop-c.invariant c.loop-c-test.true c.if-s-o.true

pub overflow_add-o-in-loop-c : goal.overflow_add-o-in-loop-c
overflow_add-o-in-loop-c c =
    let fits : c.loop-c.o + c.args.size ≤ length c.args.s.now = look_fits _ _ _ _ _ c.requires _ _ c.loop-c.invariant c.loop-c-test.true in omega (arith, fits)

pub loop-c-preserved : goal.loop-c-preserved
loop-c-preserved c = look_more _ _ _ _ _ c.requires _ _ c.loop-c.invariant c.loop-c-test.true c.if-s-o.false

pub returns : goal.returns
returns c = look_end _ _ _ _ _ c.requires _ _ c.loop-c.invariant c.loop-c-test.false
