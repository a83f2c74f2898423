-- `tornedge::crack_ends` meets its contract: the way at v opens, or the way at w does, or neither. Assumes nothing.
use borrow.Author.Rules.{rules}
use mathlib.Core.Path.{refl, ◌∙◌}
use Rattle.elements.specs.Table.{kind_is}
use Rattle.mesh.specs.Log.{world_at}
use Rattle.mesh.proofs.Agree.{lent_path}
use Rattle.tornedge.proofs.OpenLaws.{still_ready, first_taken, second_taken, none_taken, linked_torn, linked_shut}
use Rattle.tornedge.proofs.crack_ends.Goals as goal

-- `tornedge::crack_ends` meets its contract: the way at v opens, or the way at w does, or neither. Assumes nothing.
pub try_way-first-requires : goal.try_way-first-requires
try_way-first-requires c = let P = c.requires in let A = c.args in (P.0, P.1, P.3)

pub shape_of-points-in-Some : goal.shape_of-points-in-Some
shape_of-points-in-Some c = c.try_way-first.auto.points

pub shape_of-roots-in-Some : goal.shape_of-roots-in-Some
shape_of-roots-in-Some c = c.try_way-first.auto.roots

pub shape_of-corners-in-Some : goal.shape_of-corners-in-Some
shape_of-corners-in-Some c = c.try_way-first.auto.corners

pub shape_of-ends-in-Some : goal.shape_of-ends-in-Some
shape_of-ends-in-Some c = c.try_way-first.auto.ends

pub shape_of-lengths-in-Some : goal.shape_of-lengths-in-Some
shape_of-lengths-in-Some c = c.try_way-first.auto.lengths

pub shape_of-outline-in-Some : goal.shape_of-outline-in-Some
shape_of-outline-in-Some c = c.try_way-first.auto.outline

pub shape_of-log-in-Some : goal.shape_of-log-in-Some
shape_of-log-in-Some c = c.try_way-first.auto.log

pub shape_of-links-in-Some : goal.shape_of-links-in-Some
shape_of-links-in-Some c = c.try_way-first.auto.links

pub returns-in-Some : goal.returns-in-Some
returns-in-Some c = let P = c.requires in let A = c.args in
    (first_taken (kind_is A.kind) A.minimum A.v A.w (A.a, A.b) (A.x, A.y) A.room (world_at A.k A.points.now A.roots.now A.corners.now A.volumes.now A.ends.now A.lengths.now A.outline.now A.log.now) A.k _ _ _ c.in-Some.is c.try_way-first.ensures.0, linked_torn (kind_is A.kind) A.k.triangles A.k.edges A.k.boundary _ _ _ _ _ _ c.in-Some.is c.try_way-first.ensures.1)

pub try_way-second-requires : goal.try_way-second-requires
unfolding world_at
try_way-second-requires c = let P = c.requires in let A = c.args in
    (still_ready (kind_is A.kind) A.minimum A.v A.w (A.a, A.b) (A.x, A.y) A.room (world_at A.k A.points.now A.roots.now A.corners.now A.volumes.now A.ends.now A.lengths.now A.outline.now A.log.now) A.k (λ q. world_at q c.try_way-first.new.points c.try_way-first.new.roots c.try_way-first.new.corners A.volumes.now c.try_way-first.new.ends c.try_way-first.new.lengths c.try_way-first.new.outline c.try_way-first.new.log) _ c.in_default.is c.try_way-first.ensures.0 _ _ P.0 (lent_path _ _ c.try_way-first.auto.points c.try_way-first.auto.roots c.try_way-first.auto.corners refl c.try_way-first.auto.ends c.try_way-first.auto.lengths c.try_way-first.auto.outline c.try_way-first.auto.log), P.2, linked_shut (kind_is A.kind) A.k.triangles A.k.edges A.k.boundary _ _ _ _ _ c.in_default.is c.try_way-first.ensures.1)

pub shape_of-points-in-Some-second : goal.shape_of-points-in-Some-second
shape_of-points-in-Some-second c = c.try_way-second.auto.points ∙ c.try_way-first.auto.points

pub shape_of-roots-in-Some-second : goal.shape_of-roots-in-Some-second
shape_of-roots-in-Some-second c = c.try_way-second.auto.roots ∙ c.try_way-first.auto.roots

pub shape_of-corners-in-Some-second : goal.shape_of-corners-in-Some-second
shape_of-corners-in-Some-second c = c.try_way-second.auto.corners ∙ c.try_way-first.auto.corners

pub shape_of-ends-in-Some-second : goal.shape_of-ends-in-Some-second
shape_of-ends-in-Some-second c = c.try_way-second.auto.ends ∙ c.try_way-first.auto.ends

pub shape_of-lengths-in-Some-second : goal.shape_of-lengths-in-Some-second
shape_of-lengths-in-Some-second c = c.try_way-second.auto.lengths ∙ c.try_way-first.auto.lengths

pub shape_of-outline-in-Some-second : goal.shape_of-outline-in-Some-second
shape_of-outline-in-Some-second c = c.try_way-second.auto.outline ∙ c.try_way-first.auto.outline

pub shape_of-log-in-Some-second : goal.shape_of-log-in-Some-second
shape_of-log-in-Some-second c = c.try_way-second.auto.log ∙ c.try_way-first.auto.log

pub shape_of-links-in-Some-second : goal.shape_of-links-in-Some-second
shape_of-links-in-Some-second c = c.try_way-second.auto.links ∙ c.try_way-first.auto.links

pub returns-in-Some-second : goal.returns-in-Some-second
returns-in-Some-second c = let P = c.requires in let A = c.args in
    (second_taken (kind_is A.kind) A.minimum A.v A.w (A.a, A.b) (A.x, A.y) A.room (world_at A.k A.points.now A.roots.now A.corners.now A.volumes.now A.ends.now A.lengths.now A.outline.now A.log.now) A.k (λ q. world_at q c.try_way-first.new.points c.try_way-first.new.roots c.try_way-first.new.corners A.volumes.now c.try_way-first.new.ends c.try_way-first.new.lengths c.try_way-first.new.outline c.try_way-first.new.log) _ c.in_default.is c.try_way-first.ensures.0 _ _ _ c.in-Some-second.is c.try_way-second.ensures.0, linked_torn (kind_is A.kind) A.k.triangles A.k.edges A.k.boundary _ _ _ _ _ _ c.in-Some-second.is c.try_way-second.ensures.1)

pub shape_of-points-in-None : goal.shape_of-points-in-None
shape_of-points-in-None c = c.try_way-second.auto.points ∙ c.try_way-first.auto.points

pub shape_of-roots-in-None : goal.shape_of-roots-in-None
shape_of-roots-in-None c = c.try_way-second.auto.roots ∙ c.try_way-first.auto.roots

pub shape_of-corners-in-None : goal.shape_of-corners-in-None
shape_of-corners-in-None c = c.try_way-second.auto.corners ∙ c.try_way-first.auto.corners

pub shape_of-ends-in-None : goal.shape_of-ends-in-None
shape_of-ends-in-None c = c.try_way-second.auto.ends ∙ c.try_way-first.auto.ends

pub shape_of-lengths-in-None : goal.shape_of-lengths-in-None
shape_of-lengths-in-None c = c.try_way-second.auto.lengths ∙ c.try_way-first.auto.lengths

pub shape_of-outline-in-None : goal.shape_of-outline-in-None
shape_of-outline-in-None c = c.try_way-second.auto.outline ∙ c.try_way-first.auto.outline

pub shape_of-log-in-None : goal.shape_of-log-in-None
shape_of-log-in-None c = c.try_way-second.auto.log ∙ c.try_way-first.auto.log

pub shape_of-links-in-None : goal.shape_of-links-in-None
shape_of-links-in-None c = c.try_way-second.auto.links ∙ c.try_way-first.auto.links

pub returns-in-None : goal.returns-in-None
returns-in-None c = let P = c.requires in let A = c.args in
    (none_taken (kind_is A.kind) A.minimum A.v A.w (A.a, A.b) (A.x, A.y) A.room (world_at A.k A.points.now A.roots.now A.corners.now A.volumes.now A.ends.now A.lengths.now A.outline.now A.log.now) A.k (λ q. world_at q c.try_way-first.new.points c.try_way-first.new.roots c.try_way-first.new.corners A.volumes.now c.try_way-first.new.ends c.try_way-first.new.lengths c.try_way-first.new.outline c.try_way-first.new.log) _ c.in_default.is c.try_way-first.ensures.0 _ _ c.in-None.is c.try_way-second.ensures.0 P.0.counts, linked_shut (kind_is A.kind) A.k.triangles A.k.edges A.k.boundary _ _ _ _ _ c.in-None.is c.try_way-second.ensures.1)
