-- `marks::sides::left_of` meets its contract. The middle of three corners, or of two. Assumes nothing.
use Rattle.marks.proofs.SideLaws.{row_long, row_else, left_three, left_two}
use Rattle.marks.specs.Marking.{blade_from}
use lib.Ieee.{of_bits}
use native.Mathlib.Omega.{arith}
use borrow.Author.Rules.{rules}
use Rattle.marks.proofs.sides.left_of.Goals as goal

pub place-x-requires : goal.place-x-requires
place-x-requires c = c.requires.corners_in 0 (omega (arith, row_long _ _ c.requires))

pub place-y-requires : goal.place-y-requires
place-y-requires c = c.requires.corners_in 1 (omega (arith, row_long _ _ c.requires))

pub place-z-requires : goal.place-z-requires
place-z-requires c = c.requires.corners_in 2 (omega (arith, c.if-row-eq3.true))

pub returns-then-row-eq3 : goal.returns-then-row-eq3
unfolding of_bits
returns-then-row-eq3 c = let A = c.args in
    left_three (blade_from A.b0 A.b1) A.points.now A.row.now _ _ _ _ _ c.if-row-eq3.true c.place-x.ensures c.place-y.ensures c.place-z.ensures c.centroid_of_three.ensures c.offset.ensures

pub returns : goal.returns
unfolding of_bits
returns c = let A = c.args in
    left_two (blade_from A.b0 A.b1) A.points.now A.row.now _ _ _ _ (row_else _ _ c.requires c.if-row-eq3.false) c.place-x.ensures c.place-y.ensures c.centroid_of_two.ensures c.offset-2.ensures
