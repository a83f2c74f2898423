-- `tornedge::try_way` meets its contract: the way opens and is split, or nothing is done. Assumes nothing.
use mathlib.Core.Path.{refl, sym, ◌∙◌}
use Rattle.elements.specs.Table.{kind_is}
use Rattle.mesh.specs.At.{mesh_at}
use Rattle.mesh.specs.Log.{world_at}
use Rattle.tornedge.proofs.OpenLaws.{asked_ready, opens_two, way_shut, way_tried}
use borrow.Author.Rules.{rules}
use Rattle.tornedge.proofs.try_way.Goals as goal

-- `tornedge::try_way` meets its contract: the way opens and is split, or nothing is done. Assumes nothing.
pub way_open-requires : goal.way_open-requires
way_open-requires c = let A = c.args in let P = c.requires in (asked_ready A.room A.k A.points.now A.roots.now A.corners.now A.volumes.now A.ends.now A.lengths.now A.outline.now A.log.now P.0 P.1, P.2)

pub open_way-requires : goal.open_way-requires
open_way-requires c = let A = c.args in let P = c.requires in (P.0, P.1, opens_two (kind_is A.kind) A.minimum A.v A.w (mesh_at A.k A.points.now A.roots.now A.corners.now A.volumes.now A.ends.now A.lengths.now A.outline.now) (sym c.way_open.ensures ∙ c.if-way_open.true), P.2)

pub shape_of-points-then-way_open : goal.shape_of-points-then-way_open
shape_of-points-then-way_open c = c.open_way.auto.points

pub shape_of-roots-then-way_open : goal.shape_of-roots-then-way_open
shape_of-roots-then-way_open c = c.open_way.auto.roots

pub shape_of-corners-then-way_open : goal.shape_of-corners-then-way_open
shape_of-corners-then-way_open c = c.open_way.auto.corners

pub shape_of-ends-then-way_open : goal.shape_of-ends-then-way_open
shape_of-ends-then-way_open c = c.open_way.auto.ends

pub shape_of-lengths-then-way_open : goal.shape_of-lengths-then-way_open
shape_of-lengths-then-way_open c = c.open_way.auto.lengths

pub shape_of-outline-then-way_open : goal.shape_of-outline-then-way_open
shape_of-outline-then-way_open c = c.open_way.auto.outline

pub shape_of-log-then-way_open : goal.shape_of-log-then-way_open
shape_of-log-then-way_open c = c.open_way.auto.log

pub shape_of-links-then-way_open : goal.shape_of-links-then-way_open
shape_of-links-then-way_open c = c.open_way.auto.links

pub returns-then-way_open : goal.returns-then-way_open
unfolding world_at
returns-then-way_open c = let A = c.args in
    (way_tried (kind_is A.kind) A.minimum A.v A.w (A.a, A.b) (A.x, A.y) A.room A.k (world_at A.k A.points.now A.roots.now A.corners.now A.volumes.now A.ends.now A.lengths.now A.outline.now A.log.now) _ _ (sym c.way_open.ensures ∙ c.if-way_open.true) c.open_way.ensures.0, c.open_way.ensures.1)

pub returns : goal.returns
unfolding world_at
returns c = let A = c.args in let P = c.requires in
    (way_shut (kind_is A.kind) A.minimum A.v A.w (A.a, A.b) (A.x, A.y) A.room A.k (world_at A.k A.points.now A.roots.now A.corners.now A.volumes.now A.ends.now A.lengths.now A.outline.now A.log.now) (λ q. world_at q A.points.now A.roots.now A.corners.now A.volumes.now A.ends.now A.lengths.now A.outline.now A.log.now) (sym c.way_open.ensures ∙ c.if-way_open.false) refl, P.2)
