-- `tornedge::crack_edge` meets its contract: nothing where no pair stands for the edge, else the pair is cracked. Assumes nothing.
use borrow.Author.Rules.{rules}
use mathlib.Core.Path.{refl}
use Rattle.elements.specs.Table.{kind_is}
use Rattle.mesh.specs.Log.{world_at}
use Rattle.tornedge.proofs.OpenLaws.{pair_ready, edge_below, edge_gone, edge_cracked}
use Rattle.tornedge.proofs.crack_edge.Goals as goal

-- `tornedge::crack_edge` meets its contract: nothing where no pair stands for the edge, else the pair is cracked. Assumes nothing.
pub pair_now-pair-requires : goal.pair_now-pair-requires
pair_now-pair-requires c = let P = c.requires in let A = c.args in (pair_ready A.room A.k A.points.now A.roots.now A.corners.now A.volumes.now A.ends.now A.lengths.now A.outline.now A.log.now P.0, P.1)

pub crack_pair-requires : goal.crack_pair-requires
crack_pair-requires c = let P = c.requires in let A = c.args in
    let E = edge_below (kind_is A.kind) A.minimum A.a A.b A.k.particles A.k.triangles A.loads.now A.room (world_at A.k A.points.now A.roots.now A.corners.now A.volumes.now A.ends.now A.lengths.now A.outline.now A.log.now) _ c.pair_now-pair.ensures _ _ c.in-Some.is in
    (P.0, P.2, E.0, E.1, P.3, P.4, P.5)

pub returns-in-None : goal.returns-in-None
returns-in-None c = let P = c.requires in let A = c.args in
    (edge_gone (kind_is A.kind) A.minimum A.a A.b A.k.particles A.k.triangles A.loads.now A.room (world_at A.k A.points.now A.roots.now A.corners.now A.volumes.now A.ends.now A.lengths.now A.outline.now A.log.now) _ c.pair_now-pair.ensures (λ q. world_at q A.points.now A.roots.now A.corners.now A.volumes.now A.ends.now A.lengths.now A.outline.now A.log.now) A.k refl P.0.counts c.in-None.is, P.5)

pub shape_of-points-in-Some : goal.shape_of-points-in-Some
shape_of-points-in-Some c = c.crack_pair.auto.points

pub shape_of-roots-in-Some : goal.shape_of-roots-in-Some
shape_of-roots-in-Some c = c.crack_pair.auto.roots

pub shape_of-corners-in-Some : goal.shape_of-corners-in-Some
shape_of-corners-in-Some c = c.crack_pair.auto.corners

pub shape_of-ends-in-Some : goal.shape_of-ends-in-Some
shape_of-ends-in-Some c = c.crack_pair.auto.ends

pub shape_of-lengths-in-Some : goal.shape_of-lengths-in-Some
shape_of-lengths-in-Some c = c.crack_pair.auto.lengths

pub shape_of-outline-in-Some : goal.shape_of-outline-in-Some
shape_of-outline-in-Some c = c.crack_pair.auto.outline

pub shape_of-log-in-Some : goal.shape_of-log-in-Some
shape_of-log-in-Some c = c.crack_pair.auto.log

pub shape_of-links : goal.shape_of-links
shape_of-links c = c.crack_pair.auto.links

pub returns-in-Some : goal.returns-in-Some
returns-in-Some c = let P = c.requires in let A = c.args in
    (edge_cracked (kind_is A.kind) A.minimum A.a A.b A.k.particles A.k.triangles A.loads.now A.room (world_at A.k A.points.now A.roots.now A.corners.now A.volumes.now A.ends.now A.lengths.now A.outline.now A.log.now) _ c.pair_now-pair.ensures _ _ c.in-Some.is _ _ c.crack_pair.ensures.0, c.crack_pair.ensures.1)
