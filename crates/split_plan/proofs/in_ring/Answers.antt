-- `split_plan::in_ring` meets its contract. The invariant: no row so far holds x. Assumes nothing.
use mathlib.Core.Bool.{true, false≢true}
use mathlib.Core.Path.{◌≡◌, sym, ◌∙◌}
use Prim.Native.Nat.{ℕ}
use native.Mathlib.Omega.{arith}
use borrow.Author.Count.{below_more}
use borrow.Author.Rules.{rules}
use Rattle.lists.specs.Lists.{stands}
use Rattle.split_plan.proofs.Rings.{row_of, ring_some, ring_empty, row_fits}
use Rattle.split_plan.proofs.in_ring.Goals as goal

pub loop-i-init : goal.loop-i-init
loop-i-init c = (search rules, λ j l. absurd (omega arith))

pub row_has-requires : goal.row_has-requires
row_has-requires c = row_fits c.requires c.loop-i.i (search rules)

pub returns-then-row_has : goal.returns-then-row_has
returns-then-row_has c = record { is = λ O gs R. ring_some O R c.args.x c.loop-i.i (search rules) (sym c.row_has.ensures ∙ c.if-row_has.true) }

pub loop-i-preserved : goal.loop-i-preserved
loop-i-preserved c = let A = c.args in
    let L = c.loop-i in (
      search rules,
      below_more (λ (j : ℕ). stands A.x (row_of A.k A.verts.now j) ≡ true → ⊥) L.i L.invariant.1
          (λ h. false≢true (sym c.if-row_has.false ∙ c.row_has.ensures ∙ h)),
    )

pub returns : goal.returns
returns c = record { is = λ O gs R. ring_empty O R c.args.x (λ i m. c.loop-i.invariant.1 i (omega arith)) }
