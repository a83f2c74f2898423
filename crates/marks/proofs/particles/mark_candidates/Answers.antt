-- `marks::particles::mark_candidates` meets its contract. The invariant: the ends that the blade meets of the triangles so far are marked. Assumes nothing.
use Rattle.marks.proofs.MarkLaws.{corners_at, rows_none, rows_more, row_below, cleared_length, candidates_done}
use Rattle.marks.specs.Marking.{Marks, met_of, blade_by}
use Rattle.lists.specs.Lists.{each, tab}
use lib.ListN.{length}
use Prim.Native.Nat.{◌≤◌, ◌-◌}
use mathlib.Core.Path.{◌≡◌, refl, ◌∙◌}
use native.Mathlib.Omega.{arith}
use Rattle.marks.proofs.particles.mark_candidates.Goals as goal

pub loop-i-init : goal.loop-i-init
loop-i-init c = let A = c.args in
    (omega arith, refl, rows_none (met_of (blade_by A.rule A.b0 A.b1) A.points.now) (corners_at A.corners.now) _ _ c.clear.ensures)

pub mark_sides-requires : goal.mark_sides-requires
mark_sides-requires c = let b = row_below _ _ _ _ c.requires.corners_in c.loop-i-test.true in (b.first, b.second, b.third)

pub loop-i-preserved : goal.loop-i-preserved
loop-i-preserved c = let A = c.args in
    let L = c.loop-i in
    let k = c.mark_sides.auto.marks in
    (omega arith, k ∙ L.invariant.1, rows_more (met_of (blade_by A.rule A.b0 A.b1) A.points.now) (corners_at A.corners.now) L.i _ _ k L.invariant.2 c.mark_sides.ensures)

pub shape_of-marks : goal.shape_of-marks
shape_of-marks c = c.loop-i.invariant.1 ∙ cleared_length _ _ c.clear.ensures

pub returns : goal.returns
returns c = let A = c.args in
    let L = c.loop-i in
    candidates_done (blade_by A.rule A.b0 A.b1) A.points.now A.t L.i A.corners.now _ (omega arith) L.invariant.2
