-- `tornedge::way_open` meets its contract: the groups of the fan, and whether each is large enough. Assumes nothing.
use native.Mathlib.Omega.{arith}
use mathlib.Core.Path.{sym, ◌∙◌}
use Rattle.elements.specs.Table.{kind_is}
use Rattle.mesh.specs.At.{mesh_at}
use Rattle.tornedge.proofs.OpenLaws.{elements_room, whole_shut, grouped_room, grouped_opens}
use borrow.Author.Rules.{rules}
use Rattle.tornedge.proofs.way_open.Goals as goal

pub way_groups-parts-requires : goal.way_groups-parts-requires
way_groups-parts-requires c = let P = c.requires in (P.0, omega arith, omega arith, P.1)

pub way_opens-requires : goal.way_opens-requires
way_opens-requires c = let A = c.args in let P = c.requires in (elements_room A.k A.points.now A.roots.now A.corners.now A.volumes.now A.ends.now A.lengths.now A.outline.now P.0, grouped_room (kind_is A.kind) A.minimum A.v A.w (mesh_at A.k A.points.now A.roots.now A.corners.now A.volumes.now A.ends.now A.lengths.now A.outline.now) _ _ c.way_groups-parts.ensures _ _ c.in-Some.is, omega (arith, c.way_groups-parts.auto.sides))

pub returns-in-Some : goal.returns-in-Some
returns-in-Some c = let A = c.args in c.way_opens.ensures ∙ grouped_opens (kind_is A.kind) A.minimum A.v A.w (mesh_at A.k A.points.now A.roots.now A.corners.now A.volumes.now A.ends.now A.lengths.now A.outline.now) _ _ c.way_groups-parts.ensures _ _ c.in-Some.is

pub returns-in-None : goal.returns-in-None
returns-in-None c = let A = c.args in sym (whole_shut (kind_is A.kind) A.minimum A.v A.w (mesh_at A.k A.points.now A.roots.now A.corners.now A.volumes.now A.ends.now A.lengths.now A.outline.now) _ _ c.way_groups-parts.ensures c.in-None.is)
