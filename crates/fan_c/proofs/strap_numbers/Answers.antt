-- `fan_c::strap_numbers` meets its contract: the invariant is the fan among the rows that were passed. Assumes nothing.
use Prim.Native.Nat.{ℕ, ◌*◌}
use native.Mathlib.Omega.{arith}
use mathlib.Core.Path.{◌≡◌, refl, sym, subst, ◌∙◌}
use lib.ListN.{length-set}
use Rattle.elements.proofs.Filling.{strap_at}
use Rattle.mesh_tables.specs.Fans.{NumbersRead, straps_with}
use Rattle.mesh_tables.proofs.FanLaws.{numbers_none, numbers_skip, numbers_take, straps_held, no_straps}
use Rattle.image.specs.Words.{words_from}
use Rattle.fan_c.proofs.Fanning.{strap_words}
use Rattle.fan_c.proofs.strap_numbers.Goals as goal
use Rattle.fan_c.proofs.strap_numbers.Goals.{else-strap_holds, then-strap_holds}

pub loop-i-init : goal.loop-i-init
loop-i-init c = let A = c.args in (λ M. rw (no_straps A.v (words_from A.bytes.now A.at (4 * A.e)) M) (numbers_none _), refl, omega arith, omega arith)

pub loop-i-preserved : goal.loop-i-preserved
loop-i-preserved c = let A = c.args in
    let L = c.loop-i in
    let said = sym (c.strap_holds.ensures ∙ strap_words A.v A.bytes.now A.at A.e L.i c.loop-i-test.true _ _ _ c.word_at-a.ensures.0 c.word_at-b.ensures.0 c.word_at-structural.ensures.0) in
    let C = (words_from A.bytes.now A.at (4 * A.e)) in
    elim c.if-strap_holds.branch [
      | then-strap_holds w ↦ rw (w.numbers-is, w.r-is)
          ((λ M. numbers_take _ _ (strap_at C M L.i) _ (straps_held A.v C M L.i) L.r L.numbers (L.invariant.0 M) (said ∙ w.if-strap_holds.true) (omega arith)), length-set L.numbers L.r L.i ∙ L.invariant.1, omega arith, omega arith)
      | else-strap_holds w ↦ rw (w.numbers-is, w.r-is) ((λ M. numbers_skip _ _ (strap_at C M L.i) _ (straps_held A.v C M L.i) L.r L.numbers (L.invariant.0 M) (said ∙ w.if-strap_holds.false)), L.invariant.1, omega arith, omega arith)
    ]

pub shape_of-numbers : goal.shape_of-numbers
shape_of-numbers c = c.loop-i.invariant.1

pub returns : goal.returns
returns c = let A = c.args in
    let L = c.loop-i in
    let q : L.i ≡ A.e = omega (arith, L.invariant.3) in
    (omega (arith, L.invariant.2, L.invariant.3), λ M. subst (λ (j : ℕ). NumbersRead (straps_with A.v j (words_from A.bytes.now A.at (4 * A.e)) M) L.r L.numbers) q (L.invariant.0 M))
