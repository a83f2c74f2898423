use Rattle.lists.specs.Lists.{pick}
use lib.Ieee.{of_bits, lt}
use mathlib.Core.Logic.{⊎_elim}
use mathlib.Core.Path.{◌≡◌, ◌∙◌}
use Rattle.insert.proofs.PlanLaws.{yes_pick, no_pick, clamped}
use Rattle.insert.proofs.plan.clamp_to.Goals as goal
use Rattle.insert.proofs.plan.clamp_to.Goals.{else-u-lo, then-u-lo}

-- src/plan.rt:25:1
pub returns-then-hi-u : goal.returns-then-hi-u
returns-then-hi-u c = let A = c.args in
    let U = c.if-u-lo in
    yes_pick _ _ _ c.if-hi-u.true ∙ clamped A.lo A.hi A.t U.u (elim U.branch [
      | then-u-lo w ↦ w.u-is ∙ yes_pick (lt A.t A.lo) _ _ w.if-u-lo.true
      | else-u-lo w ↦ w.u-is ∙ no_pick (lt A.t A.lo) _ _ w.if-u-lo.false
    ])

-- src/plan.rt:25:1
pub returns-else-hi-u : goal.returns-else-hi-u
returns-else-hi-u c = let A = c.args in
    let U = c.if-u-lo in
    no_pick _ _ _ c.if-hi-u.false ∙ clamped A.lo A.hi A.t U.u (elim U.branch [
      | then-u-lo w ↦ w.u-is ∙ yes_pick (lt A.t A.lo) _ _ w.if-u-lo.true
      | else-u-lo w ↦ w.u-is ∙ no_pick (lt A.t A.lo) _ _ w.if-u-lo.false
    ])
