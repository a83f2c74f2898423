-- `readings::grouping::mesh_opens` meets its contract: the fan, the test of its sides, and the walk. Assumes nothing.
use Rattle.mesh.specs.Given.{given}
use native.Mathlib.Omega.{arith}
use mathlib.Core.Path.{sym}
use lib.Seq.{length-take-le}
use Rattle.mesh_tables.proofs.Checked.{accepted, sides_ok_lem}
use Rattle.mesh_tables.proofs.FanRead.{found_fan}
use Rattle.readings.proofs.Grouped.{found_asked, opens_answered, opens_refused, opens_found, four_of}
use Rattle.readings.proofs.grouping.mesh_opens.Goals as goal

pub fan_of-f-requires : goal.fan_of-f-requires
fan_of-f-requires c = (accepted _ c.requires, record { verts_long = omega arith; fan_long = omega arith })

pub slice_bounds-walk_opens-end-then-sides_fit : goal.slice_bounds-walk_opens-end-then-sides_fit
slice_bounds-walk_opens-end-then-sides_fit c = sym (length-take-le _ _ c.fan_of-f.ensures.fan_room)

pub walk_opens-requires : goal.walk_opens-requires
walk_opens-requires c = let F = c.fan_of-f.ensures in
    let w = found_asked F _ _ c.sides_fit.ensures c.if-sides_fit.true in
    (w.0, w.1, F.corners.few)

pub returns-then-sides_fit : goal.returns-then-sides_fit
returns-then-sides_fit c = let A = c.args in
    let G = given A.points.now A.roots.now A.corners.now A.volumes.now A.ends.now A.lengths.now A.outline.now in
    let F = c.fan_of-f.ensures in
    opens_answered G A.v A.sides.now A.minimum _ _ c.requires (sides_ok_lem (found_fan F) _ _ c.sides_fit.ensures) c.if-sides_fit.true (opens_found F _ _ _ c.walk_opens.ensures)

pub returns : goal.returns
returns c = let A = c.args in
    let G = given A.points.now A.roots.now A.corners.now A.volumes.now A.ends.now A.lengths.now A.outline.now in
    let F = c.fan_of-f.ensures in
    opens_refused G A.v A.sides.now A.minimum 4 (four_of G _ _ c.requires (sides_ok_lem (found_fan F) _ _ c.sides_fit.ensures) c.if-sides_fit.false) (λ e. omega arith)
