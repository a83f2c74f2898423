-- `image_checks::image_fault` meets its contract: the indices are asked behind the numbers. Assumes nothing.
use mathlib.Core.Path.{refl}
use Rattle.judge.specs.Checks.{first_from, fault_in}
use Rattle.judge.proofs.Joined.{then_next, then_handed}
use Rattle.image_checks.proofs.image_fault.Goals as goal

pub returns-in_err-ensure : goal.returns-in_err-ensure
unfolding fault_in first_from
returns-in_err-ensure c = then_handed _ _ _ _ _ _ _ _ c.from_residual.ensures.1 c.in_err-ensure.ensures refl c.numbers_fit.ensures _

pub returns : goal.returns
unfolding fault_in first_from
returns c = then_next _ _ _ _ _ 3 c.ensure-2.ensures (then_next _ _ _ _ _ 2 c.in_ok-ensure.ensures refl c.numbers_fit.ensures) c.indices_fit.ensures
