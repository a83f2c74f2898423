-- `crossing::bends::mark_bends` meets its contract: both sides are marked in two tables of the particles, and then the edges between them. Assumes nothing.
use native.Mathlib.Omega.{arith}
use lib.ListN.{get_or-replicate}
use Rattle.crossing.proofs.BendLaws.{bends_marked}
use borrow.Author.Rules.{rules}
use Rattle.crossing.proofs.bends.mark_bends.Goals as goal

pub mark_side-requires : goal.mark_side-requires
mark_side-requires c = let P = c.requires in record { linked = P.1; here = P.0.a_in; long = omega arith; blank = λ x h. get_or-replicate 1024 x 0 0 h }

pub mark_side-requires-2 : goal.mark_side-requires-2
mark_side-requires-2 c = let P = c.requires in record { linked = P.1; here = P.0.b_in; long = omega arith; blank = λ x h. get_or-replicate 1024 x 0 0 h }

pub mark_between-requires : goal.mark_between-requires
mark_between-requires c = let P = c.requires in
    (record { linked = P.1; here = P.0.a_in; first_long = omega (arith, c.mark_side.auto.side); second_long = omega (arith, c.mark_side-2.auto.side); marks_long = P.0.marks_long }, c.mark_side.ensures)

pub shape_of-marks : goal.shape_of-marks
shape_of-marks c = c.mark_between.auto.marks

pub returns : goal.returns
returns c = let P = c.requires in
    bends_marked _ _ _ _ _ _ _ _ P.0.ends_in (omega (arith, c.mark_side.auto.side)) (omega (arith, c.mark_side-2.auto.side)) c.mark_side.ensures c.mark_side-2.ensures c.mark_between.ensures
