-- `image_elements::strap_rows` meets its contract: the invariant is the table of the straps among the edges that were passed. The laws are in proofs/Rows.antt.
use Prim.Native.Nat.{◌-◌, ◌≤◌}
use native.Mathlib.Omega.{arith}
use mathlib.Core.Logic.{⊎_elim}
use lib.ListN.{length-set}
use Rattle.elements.proofs.Filling.{strapping_start, strapping_done}
use Rattle.image_elements.proofs.Rows.{StrapRows, strap_skipped, strap_row}
use Rattle.image_elements.proofs.strap_rows.Goals as goal
use Rattle.image_elements.proofs.strap_rows.Goals.{else-word_at-eq1, then-word_at-eq1}

pub loop-i-init : goal.loop-i-init
loop-i-init c = (strapping_start _ _ _ _ _, omega arith)

pub bounds-verts-o-then-word_at-eq1 : goal.bounds-verts-o-then-word_at-eq1
bounds-verts-o-then-word_at-eq1 c = simp length-set (omega arith)

pub loop-i-preserved : goal.loop-i-preserved
loop-i-preserved c = let inv = c.loop-i.invariant in
    let test = c.loop-i-test.true in
    elim c.if-word_at-eq1.branch [
      | then-word_at-eq1 w ↦ rw (w.numbers-is, w.verts-is, w.measures-is, w.n-is, w.o-is) (strap_row _ _ _ _ _ _ _ _ _ _ _ _ c.loop-i.invariant.0 test _ c.word_at.ensures.0 _ _ _ w.if-word_at-eq1.true (omega arith) (omega arith) (omega arith) w.word_at-then-word_at-eq1.ensures.0 w.word_at-then-word_at-eq1-2.ensures.0 w.number_at.ensures, omega arith)
      | else-word_at-eq1 w ↦ rw (w.numbers-is, w.verts-is, w.measures-is, w.n-is, w.o-is) (strap_skipped _ _ _ _ _ _ _ _ _ _ _ _ c.loop-i.invariant.0 test _ c.word_at.ensures.0 w.if-word_at-eq1.false, omega arith)
    ]

pub shape_of-numbers : goal.shape_of-numbers
shape_of-numbers c = c.loop-i.invariant.0.filling.numbers_long

pub shape_of-verts : goal.shape_of-verts
shape_of-verts c = c.loop-i.invariant.0.filling.verts_long

pub shape_of-measures : goal.shape_of-measures
shape_of-measures c = c.loop-i.invariant.0.filling.measures_long

pub returns : goal.returns
returns c = strapping_done _ _ _ _ _ _ _ _ _ _ _ c.loop-i.invariant.0 _ c.loop-i.invariant.1 (omega arith)
