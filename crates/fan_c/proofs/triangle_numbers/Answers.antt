-- `fan_c::triangle_numbers` meets its contract: the invariant is the fan among the rows that were passed. Assumes nothing.
use Prim.Native.Nat.{ℕ, ◌*◌}
use native.Mathlib.Omega.{arith}
use mathlib.Core.Path.{◌≡◌, refl, sym, subst, ◌∙◌}
use lib.ListN.{length-set}
use Rattle.elements.proofs.Filling.{triangle_at}
use Rattle.mesh_tables.specs.Fans.{NumbersRead, triangles_with}
use Rattle.mesh_tables.proofs.FanLaws.{numbers_none, numbers_skip, numbers_take, triangles_held, no_triangles}
use Rattle.image.specs.Words.{words_from}
use Rattle.fan_c.proofs.Fanning.{triangle_words}
use Rattle.fan_c.proofs.triangle_numbers.Goals as goal
use Rattle.fan_c.proofs.triangle_numbers.Goals.{else-triangle_holds, then-triangle_holds}

pub loop-i-init : goal.loop-i-init
loop-i-init c = let A = c.args in (λ M. rw (no_triangles A.v (words_from A.bytes.now A.at (3 * A.t)) M) (numbers_none _), refl, omega arith, omega arith)

pub loop-i-preserved : goal.loop-i-preserved
loop-i-preserved c = let A = c.args in
    let L = c.loop-i in
    let said = sym (c.triangle_holds.ensures ∙ triangle_words A.v A.bytes.now A.at A.t L.i c.loop-i-test.true _ _ _ c.word_at-a.ensures.0 c.word_at-b.ensures.0 c.word_at-c.ensures.0) in
    let C = (words_from A.bytes.now A.at (3 * A.t)) in
    elim c.if-triangle_holds.branch [
      | then-triangle_holds w ↦ rw (w.numbers-is, w.r-is)
          ((λ M. numbers_take _ _ (triangle_at C M L.i) _ (triangles_held A.v C M L.i) L.r L.numbers (L.invariant.0 M) (said ∙ w.if-triangle_holds.true) (omega arith)), length-set L.numbers L.r L.i ∙ L.invariant.1, omega arith, omega arith)
      | else-triangle_holds w ↦ rw (w.numbers-is, w.r-is) ((λ M. numbers_skip _ _ (triangle_at C M L.i) _ (triangles_held A.v C M L.i) L.r L.numbers (L.invariant.0 M) (said ∙ w.if-triangle_holds.false)), L.invariant.1, omega arith, omega arith)
    ]

pub shape_of-numbers : goal.shape_of-numbers
shape_of-numbers c = c.loop-i.invariant.1

pub returns : goal.returns
returns c = let A = c.args in
    let L = c.loop-i in
    let q : L.i ≡ A.t = omega (arith, L.invariant.3) in
    (omega (arith, L.invariant.2, L.invariant.3), λ M. subst (λ (j : ℕ). NumbersRead (triangles_with A.v j (words_from A.bytes.now A.at (3 * A.t)) M) L.r L.numbers) q (L.invariant.0 M))
