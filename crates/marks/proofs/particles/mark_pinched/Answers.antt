-- `marks::particles::mark_pinched` meets its contract. The invariant: the corners of the triangles so far that have a near one are marked. Assumes nothing.
use Rattle.marks.proofs.MarkLaws.{corners_at, rows_none, rows_more, row_below, cleared_length, pinched_done}
use Rattle.marks.specs.Marking.{Marks, near_row}
use Rattle.lists.specs.Lists.{each, tab}
use lib.ListN.{length}
use Prim.Native.Nat.{◌≤◌, ◌-◌}
use mathlib.Core.Path.{◌≡◌, refl, ◌∙◌}
use native.Mathlib.Omega.{arith}
use Rattle.marks.proofs.particles.mark_pinched.Goals as goal

pub loop-i-init : goal.loop-i-init
loop-i-init c = let A = c.args in
    (omega arith, refl, rows_none (near_row A.near.now) (corners_at A.corners.now) _ _ c.clear.ensures)

pub mark_three-requires : goal.mark_three-requires
mark_three-requires c = let b = row_below _ _ _ _ c.requires.corners_in c.loop-i-test.true in (b.first, b.second, b.third)

pub loop-i-preserved : goal.loop-i-preserved
loop-i-preserved c = let A = c.args in
    let L = c.loop-i in
    let k = c.mark_three.auto.marks in
    (omega arith, k ∙ L.invariant.1, rows_more (near_row A.near.now) (corners_at A.corners.now) L.i _ _ k L.invariant.2 c.mark_three.ensures)

pub shape_of-marks : goal.shape_of-marks
shape_of-marks c = c.loop-i.invariant.1 ∙ cleared_length _ _ c.clear.ensures

pub returns : goal.returns
returns c = let A = c.args in
    let L = c.loop-i in
    pinched_done A.t L.i A.corners.now A.near.now _ (omega arith) L.invariant.2
