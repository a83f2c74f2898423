-- `marks::sides::kept_side` meets its contract. v's own side, none, or that of the first row. Assumes nothing.
use Prim.Native.Nat.{◌-◌}
use Rattle.marks.proofs.SideLaws.{row_in, kept_own, kept_none, kept_first}
use Rattle.marks.specs.Marking.{blade_from}
use Rattle.columns.proofs.Cells.{col_fits}
use lib.Ieee.{of_bits}
use native.Mathlib.Omega.{arith}
use borrow.Author.Rules.{rules}
use Rattle.marks.proofs.sides.kept_side.Goals as goal

pub returns-then-own : goal.returns-then-own
unfolding of_bits
returns-then-own c = let A = c.args in
    kept_own (blade_from A.b0 A.b1) A.points.now A.v A.k A.n A.verts.now _ _ c.place.ensures c.offset-own.ensures c.if-own.true

pub returns-then-n-eq0 : goal.returns-then-n-eq0
unfolding of_bits
returns-then-n-eq0 c = let A = c.args in
    kept_none (blade_from A.b0 A.b1) A.points.now A.v A.k A.n A.verts.now _ _ c.place.ensures c.offset-own.ensures c.if-own.false c.if-n-eq0.true

pub slice_bounds-left_of-end : goal.slice_bounds-left_of-end
slice_bounds-left_of-end c = let A = c.args in
    omega (arith, c.requires.long, col_fits 0 A.n A.k (omega arith))

pub left_of-requires : goal.left_of-requires
left_of-requires c = let A = c.args in
    let P = c.requires in
    row_in A.k A.n A.verts.now _ P.size P.long P.corners_in 0 0 (A.k - 0) (omega arith) (omega arith) (omega arith)

pub returns : goal.returns
unfolding of_bits
returns c = let A = c.args in
    kept_first (blade_from A.b0 A.b1) A.points.now A.v A.k A.n A.verts.now _ _ c.place.ensures c.offset-own.ensures c.if-own.false c.if-n-eq0.false (A.k - 0) (omega arith) _ c.left_of.ensures
