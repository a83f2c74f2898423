-- `readings::reading::rest_measure_of` meets its contract: the faults of the mesh, then of the list, or the measure. Assumes nothing.
use native.Mathlib.Omega.{arith}
use mathlib.Core.Path.{refl, sym, ap, ◌∙◌}
use mathlib.Core.Bool.{not}
use borrow.Author.Tests.{not-true, not-false}
use Rattle.mesh.proofs.Refused.{refused_some}
use Rattle.judge.proofs.Joined.{then_stays, then_held, then_denied}
use Rattle.readings.proofs.Refusing.{answer_handed, accepted_with, listed_ok, listed_refuses, listed_answers}
use Rattle.readings.proofs.reading.rest_measure_of.Goals as goal

pub returns-in_err-judge : goal.returns-in_err-judge
returns-in_err-judge c = answer_handed _ _ c.from_residual.ensures.1 ∙ listed_refuses _ _ _ _ (then_stays _ _ 4 (refused_some _)) c.in_err-judge.ensures _ refl (refused_some _)

pub returns-then-not-rising_below : goal.returns-then-not-rising_below
returns-then-not-rising_below c = listed_refuses _ _ _ _ (then_denied _ 4 (not-true _ (ap not c.if-not-rising_below.true))) c.in_ok-judge.ensures _ (listed_ok _ _ _ c.rising_below.ensures) (λ h. omega (arith, h))

pub listed_measure-requires : goal.listed_measure-requires
listed_measure-requires c = let w = accepted_with _ _ _ _ (then_held _ 4 (not-false _ (ap not c.if-not-rising_below.false))) c.in_ok-judge.ensures refl in
    (w.0, sym (listed_ok _ _ _ c.rising_below.ensures) ∙ w.1)

pub returns : goal.returns
returns c = listed_answers _ _ _ _ (then_held _ 4 (not-false _ (ap not c.if-not-rising_below.false))) c.in_ok-judge.ensures _ _ (listed_ok _ _ _ c.rising_below.ensures) refl c.listed_measure.ensures
