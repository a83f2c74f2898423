-- `split_plan::parted` meets its contract. By its three tests in turn. Assumes nothing.
use borrow.Author.Tests.{not-true, not-false}
use Rattle.split_plan.proofs.Rings.{parted_first, parted_second, parted_third}
use mathlib.Core.Path.{ap}
use mathlib.Core.Bool.{not}
use Rattle.split_plan.proofs.parted.Goals as goal

pub returns-then-not-in_ring : goal.returns-then-not-in_ring
returns-then-not-in_ring c = let A = c.args in
    record { is = λ O R. parted_first O A.x A.y c.in_ring.result (c.in_ring.ensures.is O A.groups.now R) (not-true _ (ap not c.if-not-in_ring.true)) }

pub returns-then-not-in_ring-2 : goal.returns-then-not-in_ring-2
returns-then-not-in_ring-2 c = let A = c.args in
    record { is = λ O R. parted_second O A.x A.y c.in_ring.result c.in_ring-2.result (c.in_ring.ensures.is O A.groups.now R) (not-false _ (ap not c.if-not-in_ring.false)) (c.in_ring-2.ensures.is O A.groups.now R) (not-true _ (ap not c.if-not-in_ring-2.true)) }

pub returns : goal.returns
returns c = let A = c.args in
    record { is = λ O R. parted_third O A.x A.y c.in_ring.result c.in_ring-2.result c.meets.result (c.in_ring.ensures.is O A.groups.now R) (not-false _ (ap not c.if-not-in_ring.false)) (c.in_ring-2.ensures.is O A.groups.now R) (not-false _ (ap not c.if-not-in_ring-2.false)) (c.meets.ensures.is O R) }
