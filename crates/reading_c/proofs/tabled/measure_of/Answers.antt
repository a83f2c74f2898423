-- `reading_c::tabled::measure_of` meets its contract: the faults of the mesh, then of the list, or the measure. Assumes nothing.
use native.Mathlib.Omega.{arith}
use mathlib.Core.Path.{refl, sym, ap, ◌∙◌}
use mathlib.Core.Bool.{not}
use borrow.Author.Tests.{not-true, not-false}
use Rattle.mesh.proofs.Refused.{refused_some}
use Rattle.judge.proofs.Joined.{then_stays, then_held, then_denied}
use Rattle.image.proofs.Loading.{sized_counts}
use Rattle.readings.proofs.Refusing.{answer_handed, accepted_with, listed_refuses, listed_answers}
use Rattle.reading_c.proofs.Tabling.{fault_is, faultless, listed_by, small_room, large_room, small_marks, large_marks}
use Rattle.reading_c.proofs.tabled.measure_of.Goals as goal

pub returns-in_err-image_fault : goal.returns-in_err-image_fault
returns-in_err-image_fault c = answer_handed _ _ c.from_residual.ensures.1 ∙ listed_refuses _ _ _ _ (then_stays _ _ 4 (refused_some _)) (fault_is _ c.requires _ c.in_err-image_fault.ensures) _ refl (refused_some _)

pub word_at-p-requires : goal.word_at-p-requires
word_at-p-requires c = omega (arith, sized_counts _ c.requires)

pub returns-then-not-rising_below : goal.returns-then-not-rising_below
returns-then-not-rising_below c = listed_refuses _ _ _ _ (then_denied _ 4 (not-true _ (ap not c.if-not-rising_below.true))) (fault_is _ c.requires _ c.in_ok-image_fault.ensures) _ (listed_by _ _ _ _ c.word_at-p.ensures.0 c.rising_below.ensures) (λ h. omega (arith, h))

pub is_small-requires : goal.is_small-requires
is_small-requires c = sized_counts _ c.requires

pub listed_in-requires : goal.listed_in-requires
listed_in-requires c = let w = accepted_with _ _ _ _ (then_held _ 4 (not-false _ (ap not c.if-not-rising_below.false))) (fault_is _ c.requires _ c.in_ok-image_fault.ensures) refl in
    let F = faultless c.requires w.0 in
    let h = sym c.is_small.ensures ∙ c.if-is_small.true in
    (small_room F h, small_marks _ _ F h c.word_at-p.ensures.0 (sym (listed_by _ _ _ _ c.word_at-p.ensures.0 c.rising_below.ensures) ∙ w.1), omega arith, omega arith)

pub returns-then-is_small : goal.returns-then-is_small
returns-then-is_small c = listed_answers _ _ _ _ (then_held _ 4 (not-false _ (ap not c.if-not-rising_below.false))) (fault_is _ c.requires _ c.in_ok-image_fault.ensures) _ _ (listed_by _ _ _ _ c.word_at-p.ensures.0 c.rising_below.ensures) refl c.listed_in.ensures

pub listed_in-requires-2 : goal.listed_in-requires-2
listed_in-requires-2 c = let w = accepted_with _ _ _ _ (then_held _ 4 (not-false _ (ap not c.if-not-rising_below.false))) (fault_is _ c.requires _ c.in_ok-image_fault.ensures) refl in
    let F = faultless c.requires w.0 in
    (large_room F, large_marks _ _ F c.word_at-p.ensures.0 (sym (listed_by _ _ _ _ c.word_at-p.ensures.0 c.rising_below.ensures) ∙ w.1), omega arith, omega arith)

pub returns : goal.returns
returns c = listed_answers _ _ _ _ (then_held _ 4 (not-false _ (ap not c.if-not-rising_below.false))) (fault_is _ c.requires _ c.in_ok-image_fault.ensures) _ _ (listed_by _ _ _ _ c.word_at-p.ensures.0 c.rising_below.ensures) refl c.listed_in-2.ensures
