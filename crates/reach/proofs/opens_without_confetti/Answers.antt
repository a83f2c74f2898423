-- `reach::opens_without_confetti` meets its contract. The invariant: each group below g reaches the minimum. Assumes nothing.
use borrow.Author.Rules.{rules}
use borrow.Author.Count.{below_none, below_more}
use borrow.Author.Tests.{not-true, not-false}
use native.Mathlib.Omega.{arith}
use mathlib.Core.Path.{refl, sym, ◌∙◌}
use Rattle.reach.proofs.Opening.{group_tested, lent_at, opens_yes, opens_no}
use mathlib.Core.Path.{ap}
use mathlib.Core.Bool.{not}
use Rattle.reach.proofs.opens_without_confetti.Goals as goal

pub loop-g-init : goal.loop-g-init
loop-g-init c = (search rules, refl, refl, below_none _)

pub seed-tail-requires : goal.seed-tail-requires
seed-tail-requires c = let L = c.loop-g in lent_at L.invariant.1 L.invariant.2 c.requires

pub reaches-requires : goal.reaches-requires
reaches-requires c = (c.requires.rows, c.seed-tail.ensures.queued)

pub shape_of-seen-then-not-reaches : goal.shape_of-seen-then-not-reaches
shape_of-seen-then-not-reaches c = c.reaches.auto.seen ∙ c.seed-tail.auto.seen ∙ c.loop-g.invariant.1

pub shape_of-queue-then-not-reaches : goal.shape_of-queue-then-not-reaches
shape_of-queue-then-not-reaches c = c.reaches.auto.queue ∙ c.seed-tail.auto.queue ∙ c.loop-g.invariant.2

pub returns-then-not-reaches : goal.returns-then-not-reaches
returns-then-not-reaches c =
    let A = c.args in
    let L = c.loop-g in
    let t = group_tested A.n A.k A.v A.verts.now A.groups.now L.g c.min_piece-least.result c.seed-tail.ensures c.reaches.ensures in
    opens_no A.n A.k A.v A.verts.now A.groups.now A.count A.minimum c.min_piece-least.result c.requires.grouped c.min_piece-least.ensures L.g (search rules)
    (sym t ∙ not-true _ (ap not c.if-not-reaches.true))

pub loop-g-preserved : goal.loop-g-preserved
loop-g-preserved c =
    let A = c.args in
    let L = c.loop-g in
    let t = group_tested A.n A.k A.v A.verts.now A.groups.now L.g c.min_piece-least.result c.seed-tail.ensures c.reaches.ensures in (
      search rules,
      c.reaches.auto.seen ∙ c.seed-tail.auto.seen ∙ L.invariant.1,
      c.reaches.auto.queue ∙ c.seed-tail.auto.queue ∙ L.invariant.2,
      below_more _ L.g L.invariant.3 (sym t ∙ not-false _ (ap not c.if-not-reaches.false)),
    )

pub returns : goal.returns
returns c =
    let A = c.args in
    let L = c.loop-g in
    opens_yes A.n A.k A.v A.verts.now A.groups.now A.count A.minimum _ c.requires.grouped c.min_piece-least.ensures (λ g l. L.invariant.3 g (omega arith))
