-- `marks::sides::row_sign` meets its contract. The sign of the sum of the corners' offsets. Assumes nothing.
use Rattle.marks.proofs.SignLaws.{sign_row}
use Rattle.marks.specs.Marking.{blade_by}
use Rattle.marks.specs.declared.Rule.TheVariants.{Signs}
use native.Mathlib.Omega.{arith}
use borrow.Author.Rules.{rules}
use Rattle.marks.proofs.sides.row_sign.Goals as goal

pub place-requires : goal.place-requires
place-requires c = c.requires.corners_in 0 (omega arith)

pub place-requires-2 : goal.place-requires-2
place-requires-2 c = c.requires.corners_in 1 (omega arith)

pub place-requires-3 : goal.place-requires-3
place-requires-3 c = c.requires.corners_in 2 (omega arith)

pub returns : goal.returns
returns c =
    let A = c.args in
    sign_row (blade_by Signs A.b0 A.b1) A.points.now A.row.now _ _ _ _ _ _ _ c.place.ensures c.place-2.ensures c.place-3.ensures
    c.offset-x.ensures c.offset-y.ensures c.offset-z.ensures c.sign_of_sum.ensures
