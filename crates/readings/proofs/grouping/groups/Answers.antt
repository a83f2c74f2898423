-- `readings::grouping::groups` meets its contract: the faults of the mesh, or the groups. Assumes nothing.
use native.Mathlib.Omega.{arith}
use mathlib.Core.Path.{refl, sym}
use Rattle.mesh_tables.proofs.Accepted.{sizes_of}
use Rattle.mesh.specs.Given.{given}
use Rattle.mesh.proofs.Refused.{refused_some}
use Rattle.arguments.proofs.Judged.{undecided}
use Rattle.mesh_tables.proofs.Checked.{accepted}
use Rattle.readings.proofs.Grouped.{groups_refused, few_roomy}
use Rattle.readings.proofs.grouping.groups.Goals as goal

pub returns-in-Err : goal.returns-in-Err
returns-in-Err c = let A = c.args in
    let G = given A.points.now A.roots.now A.corners.now A.volumes.now A.ends.now A.lengths.now A.outline.now in
    groups_refused G A.v A.sides.now _ c.in-Err.e _ (undecided G _ _ c.in-Err.ensures (refused_some c.in-Err.e)) c.clear.ensures

pub groups_in-requires : goal.groups_in-requires
groups_in-requires c = let A = c.args in
    let G = given A.points.now A.roots.now A.corners.now A.volumes.now A.ends.now A.lengths.now A.outline.now in
    let s = sizes_of (accepted G (sym c.in_default.ensures)) in
    (s.few_triangles, s.few_edges, omega arith, few_roomy _ c.if-sides-le-FEW_SIDES.true)

pub returns-then-sides-le-FEW_SIDES : goal.returns-then-sides-le-FEW_SIDES
returns-then-sides-le-FEW_SIDES c = let A = c.args in
    c.groups_in.ensures A.points.now A.roots.now A.volumes.now A.lengths.now A.outline.now refl (sym c.in_default.ensures)

pub groups_in-requires-2 : goal.groups_in-requires-2
groups_in-requires-2 c = let A = c.args in
    let G = given A.points.now A.roots.now A.corners.now A.volumes.now A.ends.now A.lengths.now A.outline.now in
    let s = sizes_of (accepted G (sym c.in_default.ensures)) in
    (s.few_triangles, s.few_edges, omega arith, λ k w n. n)

pub returns : goal.returns
returns c = let A = c.args in
    c.groups_in-2.ensures A.points.now A.roots.now A.volumes.now A.lengths.now A.outline.now refl (sym c.in_default.ensures)
