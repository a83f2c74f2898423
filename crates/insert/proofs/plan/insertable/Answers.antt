use native.Mathlib.Omega.{arith}
use lib.Ieee.{of_bits}
use Rattle.insert.proofs.PlanLaws.{near_below, not_wanted, no_mass, by_length, was_false, was_true}
use borrow.Author.Rules.{rules}
use mathlib.Core.Path.{ap}
use mathlib.Core.Bool.{not}
use Rattle.insert.proofs.plan.insertable.Goals as goal

-- src/plan.rt:90:29
pub overflow_add-p : goal.overflow_add-p
overflow_add-p c = let A = c.args in
    omega (arith, near_below A.f A.t A.plan A.points.now _ c.near_end-near.ensures _ c.requires.a_in c.requires.b_in)

-- src/plan.rt:90:22
pub offset_bounds-points-p : goal.offset_bounds-points-p
offset_bounds-points-p c = let A = c.args in
    omega (arith, near_below A.f A.t A.plan A.points.now _ c.near_end-near.ensures _ c.requires.a_in c.requires.b_in)

-- src/plan.rt:90:22
pub bounds-points-p : goal.bounds-points-p
bounds-points-p c = let A = c.args in
    omega (arith, near_below A.f A.t A.plan A.points.now _ c.near_end-near.ensures _ c.requires.a_in c.requires.b_in)

-- src/plan.rt:91:9
pub returns-then-not-wanted : goal.returns-then-not-wanted
returns-then-not-wanted c = not_wanted _ _ _ _ _ c.near_end-near.ensures _ c.wanted.ensures (was_false _ (ap not c.if-not-wanted.true))

-- src/plan.rt:94:9
pub returns-then-plan : goal.returns-then-plan
unfolding of_bits
returns-then-plan c = by_length _ _ _ _ _ c.near_end-near.ensures _ c.wanted.ensures (was_true _ (ap not c.if-not-wanted.false)) c.if-plan.true

-- src/plan.rt:83:1
pub returns : goal.returns
unfolding of_bits
returns c = no_mass _ _ _ _ _ c.near_end-near.ensures _ c.wanted.ensures (was_true _ (ap not c.if-not-wanted.false)) c.if-plan.false
