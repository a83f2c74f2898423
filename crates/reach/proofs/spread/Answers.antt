-- `reach::spread` meets its contract. The invariant: what the rows below j ask for is done. Assumes nothing.
use borrow.Author.Rules.{rules}
use native.Mathlib.Omega.{arith}
use mathlib.Core.Path.{refl, sym, ◌∙◌, ap}
use mathlib.Core.Logic.{inl, inr}
use Prim.Native.Nat.{◌<◌}
use borrow.Author.Tests.{eq-eqb, ne_eqb}
use lib.ListN.{length, length-set}
use Rattle.reach.specs.Walk.{touching}
use Rattle.reach.proofs.Queues.{queue_end, spread_start, spread_skip, spread_mark, spread_done, spread_at}
use Rattle.reach.proofs.spread.Goals as goal
use Rattle.reach.proofs.spread.Goals.{else-seen-j-ne1, then-seen-j-ne1+else-touches, then-seen-j-ne1+then-touches}

pub loop-j-init : goal.loop-j-init
loop-j-init c =
    let A = c.args in
    (search rules, refl, refl, spread_start (touching A.k A.v A.verts.now A.i) c.requires.2)

pub offset_bounds-seen-j : goal.offset_bounds-seen-j
offset_bounds-seen-j c = let h = c.loop-j.invariant.3.queued.seen_room in search rules

pub bounds-seen-j : goal.bounds-seen-j
bounds-seen-j c = let h = c.loop-j.invariant.3.queued.seen_room in search rules

pub touches-requires : goal.touches-requires
touches-requires c = let P = c.requires in (P.0, P.1, search rules)

pub offset_bounds-seen-j-then-touches : goal.offset_bounds-seen-j-then-touches
offset_bounds-seen-j-then-touches c = let h = c.loop-j.invariant.3.queued.seen_room in search rules

pub bounds-seen-j-then-touches : goal.bounds-seen-j-then-touches
bounds-seen-j-then-touches c = let h = c.loop-j.invariant.3.queued.seen_room in search rules

pub offset_bounds-queue-end : goal.offset_bounds-queue-end
offset_bounds-queue-end c =
    let L = c.loop-j in
    let e : L.end < c.args.n = queue_end L.invariant.3.queued L.j (search rules) (ne_eqb _ _ c.if-seen-j-ne1.true) in
    let h = L.invariant.3.queued.queue_room in
    search rules

pub bounds-queue-end : goal.bounds-queue-end
bounds-queue-end c =
    let L = c.loop-j in
    let e : L.end < c.args.n = queue_end L.invariant.3.queued L.j (search rules) (ne_eqb _ _ c.if-seen-j-ne1.true) in
    let h = L.invariant.3.queued.queue_room in
    search rules

pub overflow_add-end : goal.overflow_add-end
overflow_add-end c =
    let L = c.loop-j in
    let e : L.end < c.args.n = queue_end L.invariant.3.queued L.j (search rules) (ne_eqb _ _ c.if-seen-j-ne1.true) in
    let h = L.invariant.3.queued.queue_room in
    search rules

pub loop-j-preserved : goal.loop-j-preserved
loop-j-preserved c =
    let A = c.args in
    let L = c.loop-j in
    let p = touching A.k A.v A.verts.now A.i in
    let l : L.j < A.n = search rules in
    elim c.if-seen-j-ne1.branch [
      | then-seen-j-ne1+then-touches w ↦ (
        omega arith,
        ap length w.seen-is ∙ length-set L.seen L.j 1 ∙ L.invariant.1,
        ap length w.queue-is ∙ length-set L.queue L.end L.j ∙ L.invariant.2,
        spread_at w.seen-is w.queue-is w.end-is (spread_mark p L.invariant.3 l (ne_eqb _ _ w.if-seen-j-ne1.true) (sym w.touches.ensures ∙ w.if-touches.true)),
      )
      | then-seen-j-ne1+else-touches w ↦ (
        omega arith,
        ap length w.seen-is ∙ L.invariant.1,
        ap length w.queue-is ∙ L.invariant.2,
        spread_at w.seen-is w.queue-is w.end-is (spread_skip p L.invariant.3 l (inr (sym w.touches.ensures ∙ w.if-touches.false))),
      )
      | else-seen-j-ne1 w ↦ (
        omega arith,
        ap length w.seen-is ∙ L.invariant.1,
        ap length w.queue-is ∙ L.invariant.2,
        spread_at w.seen-is w.queue-is w.end-is (spread_skip p L.invariant.3 l (inl (eq-eqb _ _ w.if-seen-j-ne1.false))),
      )
    ]

pub returns : goal.returns
returns c =
    let A = c.args in
    spread_done (touching A.k A.v A.verts.now A.i) c.loop-j.invariant.3 (search rules)
