-- `tornedge::open_way` meets its contract: the fan, its sides and its groups in tables, and the split. Assumes nothing.
use native.Mathlib.Omega.{arith}
use mathlib.Core.Path.{ap, ◌∙◌}
use Rattle.model.specs.Crack.{two_sided_of}
use Rattle.mesh.specs.At.{mesh_at}
use Rattle.split.proofs.StepLaws.{world_mesh}
use Rattle.split.proofs.TabledLaws.{sides_asked}
use Rattle.tornedge.proofs.OpenLaws.{asked_ready, way_sided, way_grouped, way_torn}
use borrow.Author.Rules.{rules}
use Rattle.tornedge.proofs.open_way.Goals as goal

pub way_tables-n-requires : goal.way_tables-n-requires
way_tables-n-requires c = let A = c.args in let P = c.requires in (asked_ready A.room A.k A.points.now A.roots.now A.corners.now A.volumes.now A.ends.now A.lengths.now A.outline.now A.log.now P.0 P.1, record { numbers = omega arith; verts = omega arith; measures = omega arith; sides = omega arith }, P.3)

pub group_fan-count-requires : goal.group_fan-count-requires
group_fan-count-requires c = let A = c.args in let P = c.requires in let Y = asked_ready A.room A.k A.points.now A.roots.now A.corners.now A.volumes.now A.ends.now A.lengths.now A.outline.now A.log.now P.0 P.1 in let F = c.way_tables-n in let S = way_sided A.k A.points.now A.roots.now A.corners.now A.volumes.now A.ends.now A.lengths.now A.outline.now Y F.ensures (omega (arith, c.way_tables-n.auto.numbers)) (omega (arith, c.way_tables-n.auto.verts)) (omega (arith, c.way_tables-n.auto.measures)) (omega (arith, c.way_tables-n.auto.sides)) in
    sides_asked S _ (omega (arith, F.ensures.few))

pub tear_open-requires : goal.tear_open-requires
tear_open-requires c = let A = c.args in let P = c.requires in let Y = asked_ready A.room A.k A.points.now A.roots.now A.corners.now A.volumes.now A.ends.now A.lengths.now A.outline.now A.log.now P.0 P.1 in let F = c.way_tables-n in let S = way_sided A.k A.points.now A.roots.now A.corners.now A.volumes.now A.ends.now A.lengths.now A.outline.now Y F.ensures (omega (arith, c.way_tables-n.auto.numbers)) (omega (arith, c.way_tables-n.auto.verts)) (omega (arith, c.way_tables-n.auto.measures)) (omega (arith, c.way_tables-n.auto.sides)) in
    (P.0, way_grouped S (ap (two_sided_of (mesh_at A.k A.points.now A.roots.now A.corners.now A.volumes.now A.ends.now A.lengths.now A.outline.now) A.v) F.ensures.sides_are ∙ P.2) c.group_fan-count.ensures (omega (arith, c.group_fan-count.auto.groups)), P.1.ends, omega (arith, c.way_tables-n.auto.sides), P.3)

pub shape_of-points : goal.shape_of-points
shape_of-points c = c.tear_open.auto.points

pub shape_of-roots : goal.shape_of-roots
shape_of-roots c = c.tear_open.auto.roots

pub shape_of-corners : goal.shape_of-corners
shape_of-corners c = c.tear_open.auto.corners

pub shape_of-ends : goal.shape_of-ends
shape_of-ends c = c.tear_open.auto.ends

pub shape_of-lengths : goal.shape_of-lengths
shape_of-lengths c = c.tear_open.auto.lengths

pub shape_of-outline : goal.shape_of-outline
shape_of-outline c = c.tear_open.auto.outline

pub shape_of-log : goal.shape_of-log
shape_of-log c = c.tear_open.auto.log

pub shape_of-links : goal.shape_of-links
shape_of-links c = c.tear_open.auto.links

pub returns : goal.returns
returns c = let A = c.args in let P = c.requires in let Y = asked_ready A.room A.k A.points.now A.roots.now A.corners.now A.volumes.now A.ends.now A.lengths.now A.outline.now A.log.now P.0 P.1 in let F = c.way_tables-n in let S = way_sided A.k A.points.now A.roots.now A.corners.now A.volumes.now A.ends.now A.lengths.now A.outline.now Y F.ensures (omega (arith, c.way_tables-n.auto.numbers)) (omega (arith, c.way_tables-n.auto.verts)) (omega (arith, c.way_tables-n.auto.measures)) (omega (arith, c.way_tables-n.auto.sides)) in
    (way_torn S (ap (two_sided_of (mesh_at A.k A.points.now A.roots.now A.corners.now A.volumes.now A.ends.now A.lengths.now A.outline.now) A.v) F.ensures.sides_are ∙ P.2) c.group_fan-count.ensures A.w (A.a, A.b) (A.x, A.y) (world_mesh A.k A.points.now A.roots.now A.corners.now A.volumes.now A.ends.now A.lengths.now A.outline.now A.log.now) F.ensures.sides_are _ c.tear_open.ensures.0, c.tear_open.ensures.1)
