-- `reach::queue_group` meets its contract. The invariant: the rows of the group below j are marked, and f of those rows hold v. Assumes nothing.
use borrow.Author.Rules.{rules}
use native.Mathlib.Omega.{arith}
use mathlib.Core.Bool.{true, false}
use mathlib.Core.Path.{◌≡◌, refl, sym, ◌∙◌, ap}
use mathlib.Core.Logic.{inr}
use Prim.Native.Nat.{◌<◌}
use borrow.Author.Tests.{eq-eqb, ne_eqb}
use lib.ListN.{length, length-set}
use Rattle.reach.specs.Walk.{holds_row, seeds}
use Rattle.reach.proofs.Rowing.{tally_zero, tally_yes, tally_no, seed_in, seed_out, place_in}
use Rattle.reach.proofs.Queues.{queue_end, queued_none, spread_start, spread_fresh, spread_skip, spread_mark, spread_done, spread_at, seeded}
use Rattle.reach.proofs.queue_group.Goals as goal
use Rattle.reach.proofs.queue_group.Goals.{then-groups-f, else-groups-f, else-holds, then-holds}

pub loop-j-init : goal.loop-j-init
loop-j-init c =
    let A = c.args in
    let P = c.requires in
    (search rules, tally_zero (holds_row A.k A.v A.verts.now), refl, refl, spread_start (seeds A.k A.v A.verts.now A.groups.now A.g) (queued_none A.n A.seen.now A.queue.now P.0.seen_room P.0.queue_room P.1))

pub holds-requires : goal.holds-requires
holds-requires c = (c.requires.0.rows, search rules)

pub offset_bounds-groups-f : goal.offset_bounds-groups-f
offset_bounds-groups-f c =
    let A = c.args in
    let L = c.loop-j in
    let h : L.f < length A.groups.now = place_in A.k A.v A.verts.now A.groups.now A.g L.j L.f A.n _ _ c.requires.0 (search rules) L.invariant.1 (sym c.holds.ensures ∙ c.if-holds.true) in
    search rules

pub bounds-groups-f : goal.bounds-groups-f
bounds-groups-f c =
    let A = c.args in
    let L = c.loop-j in
    let h : L.f < length A.groups.now = place_in A.k A.v A.verts.now A.groups.now A.g L.j L.f A.n _ _ c.requires.0 (search rules) L.invariant.1 (sym c.holds.ensures ∙ c.if-holds.true) in
    search rules

pub offset_bounds-seen-j : goal.offset_bounds-seen-j
offset_bounds-seen-j c = let h = c.loop-j.invariant.4.queued.seen_room in search rules

pub bounds-seen-j : goal.bounds-seen-j
bounds-seen-j c = let h = c.loop-j.invariant.4.queued.seen_room in search rules

pub offset_bounds-queue-end : goal.offset_bounds-queue-end
offset_bounds-queue-end c =
    let A = c.args in
    let L = c.loop-j in
    let l : L.j < A.n = search rules in
    let e : L.end < A.n = queue_end L.invariant.4.queued L.j l (spread_fresh (seeds A.k A.v A.verts.now A.groups.now A.g) L.invariant.4 l (c.requires.1 L.j l)) in
    let h = L.invariant.4.queued.queue_room in
    search rules

pub bounds-queue-end : goal.bounds-queue-end
bounds-queue-end c =
    let A = c.args in
    let L = c.loop-j in
    let l : L.j < A.n = search rules in
    let e : L.end < A.n = queue_end L.invariant.4.queued L.j l (spread_fresh (seeds A.k A.v A.verts.now A.groups.now A.g) L.invariant.4 l (c.requires.1 L.j l)) in
    let h = L.invariant.4.queued.queue_room in
    search rules

pub overflow_add-end : goal.overflow_add-end
overflow_add-end c =
    let A = c.args in
    let L = c.loop-j in
    let l : L.j < A.n = search rules in
    let e : L.end < A.n = queue_end L.invariant.4.queued L.j l (spread_fresh (seeds A.k A.v A.verts.now A.groups.now A.g) L.invariant.4 l (c.requires.1 L.j l)) in
    let h = L.invariant.4.queued.queue_room in
    search rules

pub overflow_add-f : goal.overflow_add-f
overflow_add-f c =
    let A = c.args in
    let L = c.loop-j in
    let h : L.f < length A.groups.now = place_in A.k A.v A.verts.now A.groups.now A.g L.j L.f A.n _ _ c.requires.0 (search rules) L.invariant.1 (sym c.holds.ensures ∙ c.if-holds.true) in
    search rules

pub loop-j-preserved : goal.loop-j-preserved
loop-j-preserved c =
    let A = c.args in
    let L = c.loop-j in
    let h = holds_row A.k A.v A.verts.now in
    let p = seeds A.k A.v A.verts.now A.groups.now A.g in
    let l : L.j < A.n = search rules in
    let t = c.holds.ensures in
    elim c.if-holds.branch [
      | then-holds w ↦ let y : h L.j ≡ true = sym t ∙ w.if-holds.true in
          let e = seed_in A.k A.v A.verts.now A.groups.now A.g L.j L.f L.invariant.1 y in
          elim w.if-groups-f.branch [
            | then-groups-f u ↦ (
              omega arith,
              w.f-is ∙ tally_yes h L.j L.f L.invariant.1 y,
              ap length (w.seen-is ∙ u.seen-is) ∙ length-set L.seen L.j 1 ∙ L.invariant.2,
              ap length (w.queue-is ∙ u.queue-is) ∙ length-set L.queue L.end L.j ∙ L.invariant.3,
              spread_at (w.seen-is ∙ u.seen-is) (w.queue-is ∙ u.queue-is) (w.end-is ∙ u.end-is)
                  (spread_mark p L.invariant.4 l (spread_fresh p L.invariant.4 l (c.requires.1 L.j l)) (e ∙ eq-eqb _ _ u.if-groups-f.true)),
            )
            | else-groups-f u ↦ (
              omega arith,
              w.f-is ∙ tally_yes h L.j L.f L.invariant.1 y,
              ap length (w.seen-is ∙ u.seen-is) ∙ L.invariant.2,
              ap length (w.queue-is ∙ u.queue-is) ∙ L.invariant.3,
              spread_at (w.seen-is ∙ u.seen-is) (w.queue-is ∙ u.queue-is) (w.end-is ∙ u.end-is) (spread_skip p L.invariant.4 l (inr (e ∙ ne_eqb _ _ u.if-groups-f.false))),
            )
          ]
      | else-holds w ↦ let y : h L.j ≡ false = sym t ∙ w.if-holds.false in (
        omega arith,
        w.f-is ∙ tally_no h L.j L.f L.invariant.1 y,
        ap length w.seen-is ∙ L.invariant.2,
        ap length w.queue-is ∙ L.invariant.3,
        spread_at w.seen-is w.queue-is w.end-is (spread_skip p L.invariant.4 l (inr (seed_out A.k A.v A.verts.now A.groups.now A.g L.j L.f y))),
      )
    ]

pub returns : goal.returns
returns c =
    let A = c.args in
    seeded c.requires.1 (spread_done (seeds A.k A.v A.verts.now A.groups.now A.g) c.loop-j.invariant.4 (search rules))
