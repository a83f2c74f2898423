-- `cut::facets::split_many` meets its contract. The fan is read into tables with room for any fan, parted and split. Assumes nothing.
use Rattle.cut.proofs.FanSides.{fan_room, fan_sided, fan_sides}
use Rattle.cut.proofs.RunLaws.{one_works}
use Rattle.split.proofs.LinkLaws.{fan_ready}
use Rattle.mesh.specs.Log.{world_at}
use Rattle.elements.specs.Table.{kind_is}
use mathlib.Core.Path.{refl}
use native.Mathlib.Omega.{arith}
use borrow.Author.Rules.{rules}
use Rattle.cut.proofs.facets.split_many.Goals as goal

pub fan_tables-n-requires : goal.fan_tables-n-requires
fan_tables-n-requires c = let P = c.requires in let A = c.args in fan_ready (kind_is A.kind) A.room A.k A.points.now A.roots.now A.corners.now A.volumes.now A.ends.now A.lengths.now A.outline.now A.log.now P.0 P.1 P.3

pub part_fan-requires : goal.part_fan-requires
part_fan-requires c = let P = c.requires in let A = c.args in let F = c.fan_tables-n.ensures in
    fan_room (kind_is A.kind) A.k A.points.now A.roots.now A.corners.now A.volumes.now A.ends.now A.lengths.now A.outline.now A.room _ P.0 refl A.v P.1 _ _ _ _ F (omega (arith, F.few, c.fan_tables-n.auto.numbers)) (omega (arith, F.narrow, c.fan_tables-n.auto.verts)) (omega (arith, F.few, c.fan_tables-n.auto.measures)) _ (omega (arith, F.few))

pub split_tabled-requires : goal.split_tabled-requires
split_tabled-requires c = let P = c.requires in let A = c.args in let F = c.fan_tables-n.ensures in
    (P.0, fan_sided (kind_is A.kind) A.k A.points.now A.roots.now A.corners.now A.volumes.now A.ends.now A.lengths.now A.outline.now A.room _ P.0 refl A.v P.1 _ _ _ _ F (omega (arith, F.few, c.fan_tables-n.auto.numbers)) (omega (arith, F.narrow, c.fan_tables-n.auto.verts)) (omega (arith, F.few, c.fan_tables-n.auto.measures)) A.way _ c.part_fan.ensures (omega (arith, c.part_fan.auto.sides, F.few)), omega (arith, F.few), P.2, P.3)

pub shape_of-points : goal.shape_of-points
shape_of-points c = c.split_tabled.auto.points

pub shape_of-roots : goal.shape_of-roots
shape_of-roots c = c.split_tabled.auto.roots

pub shape_of-corners : goal.shape_of-corners
shape_of-corners c = c.split_tabled.auto.corners

pub shape_of-ends : goal.shape_of-ends
shape_of-ends c = c.split_tabled.auto.ends

pub shape_of-lengths : goal.shape_of-lengths
shape_of-lengths c = c.split_tabled.auto.lengths

pub shape_of-outline : goal.shape_of-outline
shape_of-outline c = c.split_tabled.auto.outline

pub shape_of-log : goal.shape_of-log
shape_of-log c = c.split_tabled.auto.log

pub shape_of-list : goal.shape_of-list
shape_of-list c = c.split_tabled.auto.list

pub shape_of-links : goal.shape_of-links
shape_of-links c = c.split_tabled.auto.links

pub returns : goal.returns
unfolding world_at
returns c = let P = c.requires in let A = c.args in let F = c.fan_tables-n.ensures in
    ((one_works A.way (kind_is A.kind) A.v _ A.room _ _ _ (fan_sides (kind_is A.kind) A.k A.points.now A.roots.now A.corners.now A.volumes.now A.ends.now A.lengths.now A.outline.now A.room _ P.0 refl A.v P.1 _ _ _ _ F (omega (arith, F.few, c.fan_tables-n.auto.numbers)) (omega (arith, F.narrow, c.fan_tables-n.auto.verts)) (omega (arith, F.few, c.fan_tables-n.auto.measures)) A.way _ c.part_fan.ensures) c.split_tabled.ensures.0.0, c.split_tabled.ensures.0.1), c.split_tabled.ensures.1)
