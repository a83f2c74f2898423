-- `cut::facets::split_marked` meets its contract. The invariant: the marked particles so far are split, no step lacked room, the tables of links are those of the blocks, and the list is as long as ever. Assumes nothing.
use Rattle.std.proofs.lemmas.Result.{err_from_is_err_and}
use Rattle.cut.proofs.RunLaws.{split_to, run_none, run_skip, run_next, run_end, run_all, ready_at, grown_at, entries_at, words_at}
use Rattle.split.proofs.LinkLaws.{linked_done}
use Rattle.links.specs.Linked.{MeshLinked}
use Rattle.work.proofs.Placed.{particles_count}
use Rattle.work.specs.Working.{Works}
use Rattle.elements.specs.Table.{kind_is}
use Rattle.mesh.proofs.Agree.{lent_path}
use Rattle.mesh.specs.Log.{world_at}
use Rattle.mesh.specs.Filled.{lent}
use Rattle.mesh.specs.Given.{Lent}
use Prim.Native.Nat.{◌≤◌, ◌-◌}
use mathlib.Core.Path.{◌≡◌, refl, ◌∙◌, ap, sym}
use lib.ListN.{length}
use borrow.Author.Rules.{rules}
use native.Mathlib.Omega.{arith}
use Rattle.cut.proofs.facets.split_marked.Goals as goal

pub loop-v-init : goal.loop-v-init
loop-v-init c = let A = c.args in
    (omega arith, refl, run_none A.way (kind_is A.kind) A.room A.marks.now {at = λ q. world_at q A.points.now A.roots.now A.corners.now A.volumes.now A.ends.now A.lengths.now A.outline.now A.log.now} A.k c.requires.0.counts, refl, refl, c.requires.3)

pub loop-v-preserved-then-marks-v-ne1 : goal.loop-v-preserved-then-marks-v-ne1
loop-v-preserved-then-marks-v-ne1 c = let A = c.args in
    let L = c.loop-v in
    (omega (arith, c.loop-v-test.true), L.invariant.1, run_skip A.way (kind_is A.kind) A.room A.marks.now L.v L.invariant.2 c.if-marks-v-ne1.true, L.invariant.3, L.invariant.4, L.invariant.5)

pub split_next-requires : goal.split_next-requires
unfolding world_at
split_next-requires c = let A = c.args in
    let P = c.requires in
    let L = c.loop-v in
    let G = P.1.logged in (
      ready_at A.way (kind_is A.kind) A.room A.marks.now L.v L.invariant.2 c.requires.1.logged.entries c.requires.1.logged.words A.k _ _ P.0 L.invariant.1,
      record { logged = record { entries = entries_at A.way (kind_is A.kind) A.room A.marks.now L.v L.invariant.2 c.requires.1.logged.entries c.requires.1.logged.words; words = words_at A.way (kind_is A.kind) A.room A.marks.now L.v L.invariant.2 c.requires.1.logged.entries c.requires.1.logged.words }; here = omega (arith, P.1.inside, grown_at A.way (kind_is A.kind) A.room A.marks.now L.v L.invariant.2 c.requires.1.logged.entries c.requires.1.logged.words, particles_count A.k A.points.now A.roots.now A.corners.now A.volumes.now A.ends.now A.lengths.now A.outline.now, particles_count L.counts L.points L.roots L.corners A.volumes.now L.ends L.lengths L.outline) },
      omega (arith, P.2, L.invariant.3),
      L.invariant.5,
    )

pub shape_of-points-in_err-next : goal.shape_of-points-in_err-next
shape_of-points-in_err-next c = c.split_next.auto.points ∙ ap (λ (I : Lent). I.points) c.loop-v.invariant.1

pub shape_of-roots-in_err-next : goal.shape_of-roots-in_err-next
shape_of-roots-in_err-next c = c.split_next.auto.roots ∙ ap (λ (I : Lent). I.roots) c.loop-v.invariant.1

pub shape_of-corners-in_err-next : goal.shape_of-corners-in_err-next
shape_of-corners-in_err-next c = c.split_next.auto.corners ∙ ap (λ (I : Lent). I.corners) c.loop-v.invariant.1

pub shape_of-ends-in_err-next : goal.shape_of-ends-in_err-next
shape_of-ends-in_err-next c = c.split_next.auto.ends ∙ ap (λ (I : Lent). I.ends) c.loop-v.invariant.1

pub shape_of-lengths-in_err-next : goal.shape_of-lengths-in_err-next
shape_of-lengths-in_err-next c = c.split_next.auto.lengths ∙ ap (λ (I : Lent). I.lengths) c.loop-v.invariant.1

pub shape_of-outline-in_err-next : goal.shape_of-outline-in_err-next
shape_of-outline-in_err-next c = c.split_next.auto.outline ∙ ap (λ (I : Lent). I.outline) c.loop-v.invariant.1

pub shape_of-log-in_err-next : goal.shape_of-log-in_err-next
shape_of-log-in_err-next c = c.split_next.auto.log ∙ ap (λ (I : Lent). I.log) c.loop-v.invariant.1

pub shape_of-list-in_err-next : goal.shape_of-list-in_err-next
shape_of-list-in_err-next c = c.split_next.auto.list ∙ c.loop-v.invariant.3

pub shape_of-links-in_err-next : goal.shape_of-links-in_err-next
shape_of-links-in_err-next c = c.split_next.auto.links ∙ c.loop-v.invariant.4

pub returns-in_err-next : goal.returns-in_err-next
returns-in_err-next c = let A = c.args in
    let L = c.loop-v in
    let p = err_from_is_err_and c.from_residual.result c.from_residual.ensures.1 in rw (p.1, p.2, sym c.in_err-next.was) (run_end A.way (kind_is A.kind) A.room A.marks.now L.v L.invariant.2 c.if-marks-v-ne1.false _ _ c.in_err-next.was A.p c.loop-v-test.true c.split_next.ensures.0, tt)

pub loop-v-preserved : goal.loop-v-preserved
loop-v-preserved c = let A = c.args in
    let L = c.loop-v in (
      omega (arith, c.loop-v-test.true),
      lent_path _ _ c.split_next.auto.points c.split_next.auto.roots c.split_next.auto.corners refl c.split_next.auto.ends c.split_next.auto.lengths c.split_next.auto.outline c.split_next.auto.log ∙ L.invariant.1,
      run_next A.way (kind_is A.kind) A.room A.marks.now L.v L.invariant.2 c.if-marks-v-ne1.false _ _ c.in_ok-next.was c.split_next.ensures.0,
      c.split_next.auto.list ∙ L.invariant.3,
      c.split_next.auto.links ∙ L.invariant.4,
      linked_done _ _ c.in_ok-next.was c.split_next.ensures.1,
    )

pub shape_of-points : goal.shape_of-points
shape_of-points c = ap (λ (I : Lent). I.points) c.loop-v.invariant.1

pub shape_of-roots : goal.shape_of-roots
shape_of-roots c = ap (λ (I : Lent). I.roots) c.loop-v.invariant.1

pub shape_of-corners : goal.shape_of-corners
shape_of-corners c = ap (λ (I : Lent). I.corners) c.loop-v.invariant.1

pub shape_of-ends : goal.shape_of-ends
shape_of-ends c = ap (λ (I : Lent). I.ends) c.loop-v.invariant.1

pub shape_of-lengths : goal.shape_of-lengths
shape_of-lengths c = ap (λ (I : Lent). I.lengths) c.loop-v.invariant.1

pub shape_of-outline : goal.shape_of-outline
shape_of-outline c = ap (λ (I : Lent). I.outline) c.loop-v.invariant.1

pub shape_of-log : goal.shape_of-log
shape_of-log c = ap (λ (I : Lent). I.log) c.loop-v.invariant.1

pub shape_of-list : goal.shape_of-list
shape_of-list c = c.loop-v.invariant.3

pub shape_of-links : goal.shape_of-links
shape_of-links c = c.loop-v.invariant.4

pub returns : goal.returns
returns c = let A = c.args in
    let L = c.loop-v in
    (run_all A.way (kind_is A.kind) A.room A.marks.now L.v A.p (omega arith) L.invariant.2, L.invariant.5)
