-- `tornedge::way_groups` meets its contract: the fan and its sides in tables, and its groups where both sides are there. Assumes nothing.
use native.Mathlib.Omega.{arith}
use mathlib.Core.Path.{sym, ◌∙◌}
use Rattle.elements.specs.Table.{kind_is}
use Rattle.mesh.specs.At.{mesh_at}
use Rattle.split.proofs.TabledLaws.{sides_asked}
use Rattle.tornedge.proofs.OpenLaws.{place_in, two_told, way_sided, way_parted, way_whole}
use borrow.Author.Rules.{rules}
use Rattle.tornedge.proofs.way_groups.Goals as goal

pub way_tables-n-requires : goal.way_tables-n-requires
way_tables-n-requires c = let P = c.requires in (P.0, record { numbers = omega arith; verts = omega arith; measures = omega arith; sides = P.1 }, P.3)

pub two_sided-requires : goal.two_sided-requires
two_sided-requires c = let A = c.args in let P = c.requires in let F = c.way_tables-n in (omega (arith, F.ensures.few, P.1, c.way_tables-n.auto.sides), place_in A.k A.points.now A.roots.now A.corners.now A.volumes.now A.ends.now A.lengths.now A.outline.now P.0)

pub group_fan-count-requires : goal.group_fan-count-requires
group_fan-count-requires c = let A = c.args in let P = c.requires in let F = c.way_tables-n in
    sides_asked (way_sided A.k A.points.now A.roots.now A.corners.now A.volumes.now A.ends.now A.lengths.now A.outline.now P.0 F.ensures (omega (arith, c.way_tables-n.auto.numbers)) (omega (arith, c.way_tables-n.auto.verts)) (omega (arith, c.way_tables-n.auto.measures)) (omega (arith, P.1, c.way_tables-n.auto.sides))) _ (omega (arith, F.ensures.few, P.2))

pub shape_of-sides-then-two_sided : goal.shape_of-sides-then-two_sided
shape_of-sides-then-two_sided c = c.way_tables-n.auto.sides

pub shape_of-groups-then-two_sided : goal.shape_of-groups-then-two_sided
shape_of-groups-then-two_sided c = c.group_fan-count.auto.groups

pub returns-then-two_sided : goal.returns-then-two_sided
returns-then-two_sided c = let A = c.args in let P = c.requires in let F = c.way_tables-n in
    way_parted (way_sided A.k A.points.now A.roots.now A.corners.now A.volumes.now A.ends.now A.lengths.now A.outline.now P.0 F.ensures (omega (arith, c.way_tables-n.auto.numbers)) (omega (arith, c.way_tables-n.auto.verts)) (omega (arith, c.way_tables-n.auto.measures)) (omega (arith, P.1, c.way_tables-n.auto.sides))) A.w F.ensures.sides_are (two_told A.k A.points.now A.roots.now A.corners.now A.volumes.now A.ends.now A.lengths.now A.outline.now P.0 _ ∙ sym c.two_sided.ensures ∙ c.if-two_sided.true) c.group_fan-count.ensures (omega (arith, P.2, c.group_fan-count.auto.groups))

pub shape_of-sides : goal.shape_of-sides
shape_of-sides c = c.way_tables-n.auto.sides

pub returns : goal.returns
returns c = let A = c.args in let P = c.requires in let F = c.way_tables-n in
    way_whole (kind_is A.kind) (mesh_at A.k A.points.now A.roots.now A.corners.now A.volumes.now A.ends.now A.lengths.now A.outline.now) A.v A.w A.groups.now F.ensures.sides_are (two_told A.k A.points.now A.roots.now A.corners.now A.volumes.now A.ends.now A.lengths.now A.outline.now P.0 _ ∙ sym c.two_sided.ensures ∙ c.if-two_sided.false)
