-- `elements::strap_table` meets its contract: the invariant is the table of the straps among the edges that were passed. The laws are in proofs/Filling.antt.
use native.Mathlib.Omega.{arith}
use lib.ListN.{length-set}
use Rattle.elements.proofs.Filling.{strapping_start, strapping_skip, strapping_take, strapping_done}
use Rattle.elements.proofs.strap_table.Goals as goal
use Rattle.elements.proofs.strap_table.Goals.{else-ends-c-eq1, then-ends-c-eq1}

pub loop-i-init : goal.loop-i-init
loop-i-init c = (strapping_start _ _ _ _ _, omega arith)

pub bounds-verts-o-then-ends-c-eq1 : goal.bounds-verts-o-then-ends-c-eq1
bounds-verts-o-then-ends-c-eq1 c = simp length-set (omega arith)

pub loop-i-preserved : goal.loop-i-preserved
loop-i-preserved c = let inv = c.loop-i.invariant in
    elim c.if-ends-c-eq1.branch [
      | then-ends-c-eq1 w ↦ rw (w.numbers-is, w.verts-is, w.measures-is, w.n-is, w.o-is) (strapping_take _ _ _ _ _ _ _ _ _ _ _ c.loop-i.invariant.0 w.if-ends-c-eq1.true (omega arith) (omega arith) (omega arith), omega arith)
      | else-ends-c-eq1 w ↦ rw (w.numbers-is, w.verts-is, w.measures-is, w.n-is, w.o-is) (strapping_skip _ _ _ _ _ _ _ _ _ _ _ c.loop-i.invariant.0 w.if-ends-c-eq1.false, omega arith)
    ]

pub shape_of-numbers : goal.shape_of-numbers
shape_of-numbers c = c.loop-i.invariant.0.filling.numbers_long

pub shape_of-verts : goal.shape_of-verts
shape_of-verts c = c.loop-i.invariant.0.filling.verts_long

pub shape_of-measures : goal.shape_of-measures
shape_of-measures c = c.loop-i.invariant.0.filling.measures_long

pub returns : goal.returns
returns c = strapping_done _ _ _ _ _ _ _ _ _ _ _ c.loop-i.invariant.0 _ c.loop-i.invariant.1 (omega arith)
