-- `crack::body::crack_body` meets its contract: there is nothing to do; or the tables of links are built, and the crack is done on them. Assumes nothing.
use native.Mathlib.Omega.{arith}
use mathlib.Core.Path.{refl, sym}
use Rattle.links.proofs.Parts.{cleared_fresh}
use Rattle.lists.proofs.Truths.{of_not}
use Rattle.elements.specs.Table.{kind_is}
use Rattle.mesh.specs.Log.{world_at}
use Rattle.split.proofs.LinkLaws.{linkable_ready}
use Rattle.cut.proofs.CutLaws.{near_room}
use Rattle.crack.proofs.BodyLaws.{crack_none}
use mathlib.Core.Path.{ap}
use mathlib.Core.Bool.{not}
use Rattle.crack.proofs.body.crack_body.Goals as goal

-- `crack::body::crack_body` meets its contract: there is nothing to do; or the tables of links are built, and the crack is done on them. Assumes nothing.
pub any_split-requires : goal.any_split-requires
any_split-requires c = let A = c.args in let P = c.requires in near_room A.k A.points.now A.roots.now A.corners.now A.volumes.now A.ends.now A.lengths.now A.outline.now A.log.now A.room _ P.0 refl refl refl

pub returns-then-not-any_split : goal.returns-then-not-any_split
unfolding world_at
returns-then-not-any_split c = let A = c.args in let P = c.requires in crack_none (kind_is A.kind) A.minimum A.torn.now (λ q. world_at q A.points.now A.roots.now A.corners.now A.volumes.now A.ends.now A.lengths.now A.outline.now A.log.now) A.k c.any_split.result c.any_split.ensures.is c.if-torn-eq0.true (of_not _ (sym (ap not c.if-not-any_split.true))) P.0.counts

pub link_mesh-requires : goal.link_mesh-requires
link_mesh-requires c = let A = c.args in let P = c.requires in (linkable_ready (kind_is A.kind) A.room A.k A.points.now A.roots.now A.corners.now A.volumes.now A.ends.now A.lengths.now A.outline.now A.log.now P.0 _ (omega arith), cleared_fresh 14336)

pub crack_linked-requires : goal.crack_linked-requires
crack_linked-requires c = let P = c.requires in (P.0, P.1, c.link_mesh.ensures)

pub shape_of-points : goal.shape_of-points
shape_of-points c = c.crack_linked.auto.points

pub shape_of-roots : goal.shape_of-roots
shape_of-roots c = c.crack_linked.auto.roots

pub shape_of-corners : goal.shape_of-corners
shape_of-corners c = c.crack_linked.auto.corners

pub shape_of-ends : goal.shape_of-ends
shape_of-ends c = c.crack_linked.auto.ends

pub shape_of-lengths : goal.shape_of-lengths
shape_of-lengths c = c.crack_linked.auto.lengths

pub shape_of-outline : goal.shape_of-outline
shape_of-outline c = c.crack_linked.auto.outline

pub shape_of-log : goal.shape_of-log
shape_of-log c = c.crack_linked.auto.log

pub returns : goal.returns
returns c = c.crack_linked.ensures
