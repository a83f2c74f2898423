-- `tear::tried::way_tables` meets its contract: the fan in tables, then its sides. Assumes nothing.
use native.Mathlib.Omega.{arith}
use Rattle.elements.specs.Table.{kind_is}
use Rattle.tear.proofs.TriedLaws.{way_lent, way_found, sides_room, way_read}
use borrow.Author.Rules.{rules}
use Rattle.tear.proofs.tried.way_tables.Goals as goal

-- `tear::tried::way_tables` meets its contract: the fan in tables, then its sides. Assumes nothing.
pub fan_tables-n-requires : goal.fan_tables-n-requires
fan_tables-n-requires c = let P = c.requires in let A = c.args in way_lent (kind_is A.kind) A.k A.points.now A.roots.now A.corners.now A.volumes.now A.ends.now A.lengths.now A.outline.now A.v A.w P.0 P.2

pub far_sides-requires : goal.far_sides-requires
far_sides-requires c = let P = c.requires in let A = c.args in let F = c.fan_tables-n in
    let R = way_found (kind_is A.kind) A.k A.points.now A.roots.now A.corners.now A.volumes.now A.ends.now A.lengths.now A.outline.now A.v A.w P.0 _ _ _ F.ensures P.1 F.auto.numbers F.auto.verts F.auto.measures in
    sides_room (kind_is A.kind) A.k A.points.now A.roots.now A.corners.now A.volumes.now A.ends.now A.lengths.now A.outline.now A.v A.w P.0 _ _ _ _ R _ _ c.corners_per-per.ensures (omega (arith, F.auto.verts, P.1.verts)) P.1.sides

pub shape_of-numbers : goal.shape_of-numbers
shape_of-numbers c = c.fan_tables-n.auto.numbers

pub shape_of-verts : goal.shape_of-verts
shape_of-verts c = c.fan_tables-n.auto.verts

pub shape_of-measures : goal.shape_of-measures
shape_of-measures c = c.fan_tables-n.auto.measures

pub shape_of-sides : goal.shape_of-sides
shape_of-sides c = c.far_sides.auto.sides

pub returns : goal.returns
returns c = let P = c.requires in let A = c.args in let F = c.fan_tables-n in
    let R = way_found (kind_is A.kind) A.k A.points.now A.roots.now A.corners.now A.volumes.now A.ends.now A.lengths.now A.outline.now A.v A.w P.0 _ _ _ F.ensures P.1 F.auto.numbers F.auto.verts F.auto.measures in
    way_read (kind_is A.kind) A.k A.points.now A.roots.now A.corners.now A.volumes.now A.ends.now A.lengths.now A.outline.now A.v A.w P.0 _ _ _ _ R _ _ c.corners_per-per.ensures (omega (arith, F.auto.verts, P.1.verts)) c.far_sides.ensures
