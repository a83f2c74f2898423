-- `tornedge::crack_pair` meets its contract: the ends are tried in their order. Assumes nothing.
use mathlib.Core.Logic.{⊎_elim}
use Rattle.elements.specs.Table.{kind_is}
use Rattle.mesh.specs.Log.{world_at}
use Rattle.tornedge.proofs.OpenLaws.{way_ready, chosen_first, chosen_second, asked_turned, pair_turned}
use Rattle.tornedge.proofs.crack_pair.Goals as goal
use Rattle.tornedge.proofs.crack_pair.Goals.{else-other, else-other-2, then-other, then-other-2}

-- `tornedge::crack_pair` meets its contract: the ends are tried in their order. Assumes nothing.
pub turned-other-requires : goal.turned-other-requires
turned-other-requires c = let P = c.requires in let A = c.args in (way_ready A.room A.k A.points.now A.roots.now A.corners.now A.volumes.now A.ends.now A.lengths.now A.outline.now A.log.now P.0 A.x A.y P.2 P.3, P.1, P.6)

pub crack_ends-requires : goal.crack_ends-requires
crack_ends-requires c = let P = c.requires in let A = c.args in let T = c.turned-other in
    let both = asked_turned T.result A.x A.y A.a A.b A.k.particles _ _ (elim c.if-other.branch [
      | then-other z ↦ chosen_first T.result _ _ _ z.if-other.true z.v-is
      | else-other z ↦ chosen_second T.result _ _ _ z.if-other.false z.v-is
    ]) (elim c.if-other-2.branch [
      | then-other-2 z ↦ chosen_first T.result _ _ _ z.if-other-2.true z.w-is
      | else-other-2 z ↦ chosen_second T.result _ _ _ z.if-other-2.false z.w-is
    ]) P.4 P.5 P.2 P.3 in
    (P.0, both.0, both.1, P.6)

pub shape_of-points : goal.shape_of-points
shape_of-points c = c.crack_ends.auto.points

pub shape_of-roots : goal.shape_of-roots
shape_of-roots c = c.crack_ends.auto.roots

pub shape_of-corners : goal.shape_of-corners
shape_of-corners c = c.crack_ends.auto.corners

pub shape_of-ends : goal.shape_of-ends
shape_of-ends c = c.crack_ends.auto.ends

pub shape_of-lengths : goal.shape_of-lengths
shape_of-lengths c = c.crack_ends.auto.lengths

pub shape_of-outline : goal.shape_of-outline
shape_of-outline c = c.crack_ends.auto.outline

pub shape_of-log : goal.shape_of-log
shape_of-log c = c.crack_ends.auto.log

pub shape_of-links : goal.shape_of-links
shape_of-links c = c.crack_ends.auto.links

pub returns : goal.returns
unfolding world_at
returns c = let A = c.args in let T = c.turned-other in (
  pair_turned (kind_is A.kind) A.minimum A.x A.y (A.a, A.b) A.loads.now A.k A.room (world_at A.k A.points.now A.roots.now A.corners.now A.volumes.now A.ends.now A.lengths.now A.outline.now A.log.now) T.result T.ensures _ _ _ _ (elim c.if-other.branch [
    | then-other z ↦ chosen_first T.result _ _ _ z.if-other.true z.v-is
    | else-other z ↦ chosen_second T.result _ _ _ z.if-other.false z.v-is
  ]) (elim c.if-other-2.branch [
    | then-other-2 z ↦ chosen_first T.result _ _ _ z.if-other-2.true z.w-is
    | else-other-2 z ↦ chosen_second T.result _ _ _ z.if-other-2.false z.w-is
  ]) c.crack_ends.ensures.0,
  c.crack_ends.ensures.1,
)
