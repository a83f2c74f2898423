-- `split_plan::ring_has` meets its contract. The invariant: no row so far has group g and holds x. Assumes nothing.
use mathlib.Core.Bool.{false≢true}
use mathlib.Core.Path.{sym, ◌∙◌}
use Prim.Native.Nat.{ℕ}
use native.Mathlib.Omega.{arith}
use borrow.Author.Count.{below_more}
use borrow.Author.Rules.{rules}
use Rattle.split_plan.proofs.Rings.{Holds, ring_made, ring_none, row_fits}
use Rattle.split_plan.proofs.ring_has.Goals as goal
use Rattle.split_plan.proofs.ring_has.Goals.{else-groups-i, then-groups-i+else-row_has}

pub loop-i-init : goal.loop-i-init
loop-i-init c = (search rules, λ j l. absurd (omega arith))

pub row_has-requires : goal.row_has-requires
row_has-requires c = row_fits c.requires c.loop-i.i (search rules)

pub returns-then-row_has : goal.returns-then-row_has
returns-then-row_has c = let A = c.args in
    let L = c.loop-i in
    record { is = λ O R l. sym (ring_made O R A.x A.g L.i (search rules) (record { of = c.if-groups-i.true; holds = sym c.row_has.ensures ∙ c.if-row_has.true })) }

pub loop-i-preserved : goal.loop-i-preserved
loop-i-preserved c = let A = c.args in
    let L = c.loop-i in (
      search rules,
      below_more (λ (j : ℕ). Holds A.x A.g A.k A.verts.now A.groups.now j → ⊥) L.i L.invariant.1
          (λ h. elim c.if-groups-i.branch [
            | then-groups-i+else-row_has w ↦ false≢true (sym w.if-row_has.false ∙ w.row_has.ensures ∙ h.holds)
            | else-groups-i w ↦ w.if-groups-i.false h.of
          ]),
    )

pub returns : goal.returns
returns c = let A = c.args in
    let L = c.loop-i in
    record { is = λ O R l. ring_none O R A.x A.g (λ i m. L.invariant.1 i (omega arith)) }
