-- `work::removal::note_edges` meets its contract: the loop over the edges is `Noting` of proofs/PieceMasks.antt. Assumes nothing.
use Rattle.work.proofs.Removals.{noting_took, noting_skipped, noting_start, noting_room, noting_done}
use Prim.Native.Nat.{◌/◌}
use lib.ListN.{length}
use Rattle.columns.proofs.Cells.{col_0, col_1}
use native.Mathlib.Omega.{arith}
use Rattle.work.proofs.removal.note_edges.Goals as goal
use Rattle.work.proofs.removal.note_edges.Goals.{else-mask-i-eq1, then-mask-i-eq1}

pub loop-i-init : goal.loop-i-init
loop-i-init c = noting_start _ _ _ _ _

pub overflow_cast-ends : goal.overflow_cast-ends
overflow_cast-ends c = omega (arith, col_0 0 (length c.args.ends.now / 4) c.args.ends.now c.loop-i.i, c.requires.ends_in.first c.loop-i.i c.loop-i-test.true)

pub overflow_cast-ends-then-mask-i-eq1 : goal.overflow_cast-ends-then-mask-i-eq1
overflow_cast-ends-then-mask-i-eq1 c = omega (arith, col_1 0 (length c.args.ends.now / 4) c.args.ends.now c.loop-i.i, c.requires.ends_in.second c.loop-i.i c.loop-i-test.true)

pub note-requires : goal.note-requires
note-requires c = noting_room _ _ _ _ _ _ _ _ c.loop-i.invariant c.loop-i-test.true c.if-mask-i-eq1.true c.requires

pub loop-i-preserved : goal.loop-i-preserved
loop-i-preserved c = elim c.if-mask-i-eq1.branch [
  | then-mask-i-eq1 w ↦ noting_took _ _ _ _ _ _ _ _ c.loop-i.invariant c.loop-i-test.true _ _ _ w.if-mask-i-eq1.true w.note.ensures w.note.auto.log w.log-is w.w-is
  | else-mask-i-eq1 w ↦ noting_skipped _ _ _ _ _ _ _ _ c.loop-i.invariant c.loop-i-test.true _ _ w.if-mask-i-eq1.false w.log-is w.w-is
]

pub shape_of-log : goal.shape_of-log
shape_of-log c = c.loop-i.invariant.long

pub returns : goal.returns
returns c = noting_done _ _ _ _ _ _ _ _ c.loop-i.invariant c.loop-i-test.false

pub overflow_add-w : goal.overflow_add-w
overflow_add-w c = omega (arith, noting_room _ _ _ _ _ _ _ _ c.loop-i.invariant c.loop-i-test.true c.if-mask-i-eq1.true c.requires)
