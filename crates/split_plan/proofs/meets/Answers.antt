-- `split_plan::meets` meets its contract. The invariant: no row so far holds x and has a group that holds y. Assumes nothing.
use mathlib.Core.Bool.{true, false≢true}
use mathlib.Core.Path.{◌≡◌, sym, ◌∙◌}
use Prim.Native.Nat.{ℕ, ◌<◌}
use native.Mathlib.Omega.{arith}
use borrow.Author.Count.{below_more}
use borrow.Author.Rules.{rules}
use lib.ListN.{get_or}
use Rattle.model.specs.Split.{ring}
use Rattle.lists.specs.Lists.{stands}
use Rattle.split_plan.proofs.Rings.{row_of, ring_any, ring_not_any, row_fits}
use Rattle.split_plan.proofs.meets.Goals as goal
use Rattle.split_plan.proofs.meets.Goals.{else-row_has, then-row_has+else-ring_has}

pub loop-i-init : goal.loop-i-init
loop-i-init c = (search rules, λ O R j l. absurd (omega arith))

pub row_has-requires : goal.row_has-requires
row_has-requires c = row_fits c.requires c.loop-i.i (search rules)

pub ring_has-requires : goal.ring_has-requires
ring_has-requires c = c.requires

pub returns-then-ring_has : goal.returns-then-ring_has
returns-then-ring_has c = let A = c.args in
    let L = c.loop-i in
    let l : L.i < A.n = search rules in
    record { is = λ O R. ring_any O R A.x (λ g. stands g (ring O A.y)) L.i l (sym c.row_has.ensures ∙ c.if-row_has.true) (sym (c.ring_has.ensures.is O R (R.below L.i l)) ∙ c.if-ring_has.true) }

pub loop-i-preserved : goal.loop-i-preserved
loop-i-preserved c = let A = c.args in
    let L = c.loop-i in
    let l : L.i < A.n = search rules in (
      search rules,
      λ O R.
          below_more (λ (j : ℕ). stands A.x (row_of A.k A.verts.now j) ≡ true → stands (get_or A.groups.now j 0) (ring O A.y) ≡ true → ⊥) L.i (L.invariant.1 O R)
          (λ h s.
          elim c.if-row_has.branch [
            | then-row_has+else-ring_has w ↦ false≢true (sym w.if-ring_has.false ∙ w.ring_has.ensures.is O R (R.below L.i l) ∙ s)
            | else-row_has w ↦ false≢true (sym w.if-row_has.false ∙ c.row_has.ensures ∙ h)
          ]),
    )

pub returns : goal.returns
returns c = let A = c.args in
    let L = c.loop-i in
    record { is = λ O R. ring_not_any O R A.x (λ g. stands g (ring O A.y)) (λ i m. L.invariant.1 O R i (omega arith)) }
