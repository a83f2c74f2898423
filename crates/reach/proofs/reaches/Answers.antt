-- `reach::reaches` meets its contract. The invariant: the walk has gone through the first head rows of the queue. Assumes nothing.
use borrow.Author.Rules.{rules}
use mathlib.Core.Path.{refl, sym, ◌∙◌, ap}
use native.Mathlib.Nat.{le_trans}
use borrow.Author.Tests.{le-leb}
use lib.Dec.{leb}
use Rattle.reach.specs.Walk.{touching}
use Rattle.reach.proofs.Rowing.{touch_either}
use Rattle.reach.proofs.Queues.{queued_le}
use Rattle.reach.proofs.Walks.{walk_start, walk_step, walk_least, walk_done}
use Rattle.reach.proofs.reaches.Goals as goal

pub loop-head-init : goal.loop-head-init
loop-head-init c = let A = c.args in (refl, refl, walk_start (touching A.k A.v A.verts.now) A.n (touch_either A.k A.v A.verts.now) _ _ _ c.requires.1)

pub returns-then-minimum-end : goal.returns-then-minimum-end
returns-then-minimum-end c =
    let A = c.args in
    let W = walk_least (touching A.k A.v A.verts.now) A.n (touch_either A.k A.v A.verts.now) c.loop-head.invariant.2 in
    sym (le-leb _ _ (le_trans c.if-minimum-end.true W))

pub offset_bounds-queue-head : goal.offset_bounds-queue-head
offset_bounds-queue-head c = let W = c.loop-head.invariant.2.queued in let h = c.loop-head.invariant.2.queued.queue_room in let l = queued_le W in search rules

pub bounds-queue-head : goal.bounds-queue-head
bounds-queue-head c = let W = c.loop-head.invariant.2.queued in let h = c.loop-head.invariant.2.queued.queue_room in let l = queued_le W in search rules

pub spread-end-requires : goal.spread-end-requires
spread-end-requires c = let W = c.loop-head.invariant.2.queued in (c.requires.0, (c.loop-head.invariant.2.queued.within c.loop-head.head (search rules)).0, W)

pub overflow_add-head : goal.overflow_add-head
overflow_add-head c = let l = queued_le c.loop-head.invariant.2.queued in search rules

pub loop-head-smaller : goal.loop-head-smaller
loop-head-smaller c = let l = queued_le c.loop-head.invariant.2.queued in search rules

pub loop-head-preserved : goal.loop-head-preserved
loop-head-preserved c =
    let A = c.args in
    let L = c.loop-head in
    let S = c.spread-end in (
      S.auto.seen ∙ L.invariant.0,
      S.auto.queue ∙ L.invariant.1,
      walk_step (touching A.k A.v A.verts.now) A.n (touch_either A.k A.v A.verts.now) L.invariant.2 c.loop-head-test.true S.ensures,
    )

pub returns : goal.returns
returns c =
    let A = c.args in
    let W = walk_done (touching A.k A.v A.verts.now) A.n (touch_either A.k A.v A.verts.now) c.loop-head.invariant.2 (search rules) in
    ap (leb A.minimum) W
