-- `crack::body::crack_listed` meets its contract: the loop over the list is `ListedTo` of proofs/ListedLaws.antt, and the tables are those of the blocks. Assumes nothing.
use Rattle.std.proofs.lemmas.Result.{err_from_is_err_and}
use native.Mathlib.Omega.{arith}
use mathlib.Core.Path.{refl, ◌∙◌, ap, sym}
use Rattle.elements.specs.Table.{kind_is}
use Rattle.mesh.specs.Given.{Lent}
use Rattle.mesh.proofs.Agree.{lent_path}
use Rattle.split.proofs.LinkLaws.{linked_done}
use Rattle.crack.proofs.ListedLaws.{to_start, to_ready, to_room, to_step, to_stop, to_done}
use Rattle.crack.proofs.body.crack_listed.Goals as goal

pub loop-i-init : goal.loop-i-init
loop-i-init c = let A = c.args in
    let P = c.requires in
    (to_start (kind_is A.kind) A.minimum A.torn.now A.e A.from.now A.to.now A.loads.now A.room A.k A.points.now A.roots.now A.corners.now A.volumes.now A.ends.now A.lengths.now A.outline.now A.log.now P.0 P.1, P.2, refl)

pub crack_numbered-requires : goal.crack_numbered-requires
crack_numbered-requires c = let A = c.args in
    let P = c.requires in
    let L = c.loop-i in
    (to_ready (kind_is A.kind) A.minimum A.torn.now A.e A.from.now A.to.now A.loads.now A.room A.k A.points.now A.roots.now A.corners.now A.volumes.now A.ends.now A.lengths.now A.outline.now A.log.now P.0 P.1 L.points L.roots L.corners L.ends L.lengths L.outline L.log L.counts L.i L.invariant.0, to_room (kind_is A.kind) A.minimum A.torn.now A.e A.from.now A.to.now A.loads.now A.room A.k A.points.now A.roots.now A.corners.now A.volumes.now A.ends.now A.lengths.now A.outline.now A.log.now P.0 P.1 L.points L.roots L.corners L.ends L.lengths L.outline L.log L.counts L.i L.invariant.0, L.invariant.1)

pub shape_of-points-in_err-next : goal.shape_of-points-in_err-next
shape_of-points-in_err-next c = c.crack_numbered.auto.points ∙ ap (λ (I : Lent). I.points) c.loop-i.invariant.0.same

pub shape_of-roots-in_err-next : goal.shape_of-roots-in_err-next
shape_of-roots-in_err-next c = c.crack_numbered.auto.roots ∙ ap (λ (I : Lent). I.roots) c.loop-i.invariant.0.same

pub shape_of-corners-in_err-next : goal.shape_of-corners-in_err-next
shape_of-corners-in_err-next c = c.crack_numbered.auto.corners ∙ ap (λ (I : Lent). I.corners) c.loop-i.invariant.0.same

pub shape_of-ends-in_err-next : goal.shape_of-ends-in_err-next
shape_of-ends-in_err-next c = c.crack_numbered.auto.ends ∙ ap (λ (I : Lent). I.ends) c.loop-i.invariant.0.same

pub shape_of-lengths-in_err-next : goal.shape_of-lengths-in_err-next
shape_of-lengths-in_err-next c = c.crack_numbered.auto.lengths ∙ ap (λ (I : Lent). I.lengths) c.loop-i.invariant.0.same

pub shape_of-outline-in_err-next : goal.shape_of-outline-in_err-next
shape_of-outline-in_err-next c = c.crack_numbered.auto.outline ∙ ap (λ (I : Lent). I.outline) c.loop-i.invariant.0.same

pub shape_of-log-in_err-next : goal.shape_of-log-in_err-next
shape_of-log-in_err-next c = c.crack_numbered.auto.log ∙ ap (λ (I : Lent). I.log) c.loop-i.invariant.0.same

pub shape_of-links-in_err-next : goal.shape_of-links-in_err-next
shape_of-links-in_err-next c = c.crack_numbered.auto.links ∙ c.loop-i.invariant.2

pub returns-in_err-next : goal.returns-in_err-next
returns-in_err-next c = let A = c.args in
    let P = c.requires in
    let L = c.loop-i in
    let p = err_from_is_err_and c.from_residual.result c.from_residual.ensures.1 in rw (p.1, p.2, sym c.in_err-next.was) (to_stop (kind_is A.kind) A.minimum A.torn.now A.e A.from.now A.to.now A.loads.now A.room A.k A.points.now A.roots.now A.corners.now A.volumes.now A.ends.now A.lengths.now A.outline.now A.log.now P.0 P.1 L.points L.roots L.corners L.ends L.lengths L.outline L.log L.counts L.i L.invariant.0 _ _ _ _ _ _ _ _ c.crack_numbered.ensures.0 c.loop-i-test.true _ c.in_err-next.was, tt)

pub loop-i-preserved : goal.loop-i-preserved
loop-i-preserved c = let A = c.args in
    let P = c.requires in
    let L = c.loop-i in (
      to_step (kind_is A.kind) A.minimum A.torn.now A.e A.from.now A.to.now A.loads.now A.room A.k A.points.now A.roots.now A.corners.now A.volumes.now A.ends.now A.lengths.now A.outline.now A.log.now P.0 P.1 L.points L.roots L.corners L.ends L.lengths L.outline L.log L.counts L.i L.invariant.0 _ _ _ _ _ _ _ _ c.crack_numbered.ensures.0 c.loop-i-test.true _ c.in_ok-next.was
          (lent_path _ _ c.crack_numbered.auto.points c.crack_numbered.auto.roots c.crack_numbered.auto.corners refl c.crack_numbered.auto.ends c.crack_numbered.auto.lengths c.crack_numbered.auto.outline c.crack_numbered.auto.log),
      linked_done _ _ c.in_ok-next.was c.crack_numbered.ensures.1,
      c.crack_numbered.auto.links ∙ L.invariant.2,
    )

pub shape_of-points : goal.shape_of-points
shape_of-points c = ap (λ (I : Lent). I.points) c.loop-i.invariant.0.same

pub shape_of-roots : goal.shape_of-roots
shape_of-roots c = ap (λ (I : Lent). I.roots) c.loop-i.invariant.0.same

pub shape_of-corners : goal.shape_of-corners
shape_of-corners c = ap (λ (I : Lent). I.corners) c.loop-i.invariant.0.same

pub shape_of-ends : goal.shape_of-ends
shape_of-ends c = ap (λ (I : Lent). I.ends) c.loop-i.invariant.0.same

pub shape_of-lengths : goal.shape_of-lengths
shape_of-lengths c = ap (λ (I : Lent). I.lengths) c.loop-i.invariant.0.same

pub shape_of-outline : goal.shape_of-outline
shape_of-outline c = ap (λ (I : Lent). I.outline) c.loop-i.invariant.0.same

pub shape_of-log : goal.shape_of-log
shape_of-log c = ap (λ (I : Lent). I.log) c.loop-i.invariant.0.same

pub shape_of-links : goal.shape_of-links
shape_of-links c = c.loop-i.invariant.2

pub returns : goal.returns
returns c = let A = c.args in
    let P = c.requires in
    let L = c.loop-i in
    (to_done (kind_is A.kind) A.minimum A.torn.now A.e A.from.now A.to.now A.loads.now A.room A.k A.points.now A.roots.now A.corners.now A.volumes.now A.ends.now A.lengths.now A.outline.now A.log.now P.0 P.1 L.points L.roots L.corners L.ends L.lengths L.outline L.log L.counts L.i L.invariant.0 (omega (arith, c.loop-i-test.false)), L.invariant.1)
