-- `tear::loads::link_sums` meets its contract: the loop from the last edge to the first is `Linking` of proofs/LinkLaws.antt. Assumes nothing.
use Prim.Native.Nat.{◌-◌}
use native.Mathlib.Omega.{arith}
use Rattle.tear.proofs.LinkLaws.{Linking, linking_start, linking_more, linking_done, sum_met, head_met}
use Rattle.tear.specs.Loads.{end_sum}
use borrow.Author.Rules.{rules}
use Rattle.tear.proofs.loads.link_sums.Goals as goal

pub loop-i-init : goal.loop-i-init
loop-i-init c = linking_start _ _ _ _ c.requires.empty

pub overflow_cast-heads : goal.overflow_cast-heads
overflow_cast-heads c = let L = c.loop-i in let P = c.requires in let A = c.args in
    omega (arith, head_met _ _ _ _ _ _ _ L.invariant P.below c.loop-i-test.true, c.slice_known-1.given (end_sum A.ends.now (L.i - 1)))

pub loop-i-preserved : goal.loop-i-preserved
loop-i-preserved c = linking_more _ _ _ _ _ _ _ c.loop-i.invariant c.requires.below c.requires.long c.requires.nexts c.loop-i-test.true

pub shape_of-heads : goal.shape_of-heads
shape_of-heads c = c.loop-i.invariant.heads_long

pub shape_of-nexts : goal.shape_of-nexts
shape_of-nexts c = c.loop-i.invariant.nexts_long

pub returns : goal.returns
returns c = linking_done _ _ _ _ _ _ _ c.loop-i.invariant (search rules)

pub overflow_add-sum-in-loop-i : goal.overflow_add-sum-in-loop-i
overflow_add-sum-in-loop-i c = omega (arith, sum_met _ _ _ _ _ _ _ c.loop-i.invariant c.requires.below c.loop-i-test.true)

pub offset_bounds-heads-sum : goal.offset_bounds-heads-sum
offset_bounds-heads-sum c = omega (arith, sum_met _ _ _ _ _ _ _ c.loop-i.invariant c.requires.below c.loop-i-test.true)

pub bounds-heads-sum : goal.bounds-heads-sum
bounds-heads-sum c = omega (arith, sum_met _ _ _ _ _ _ _ c.loop-i.invariant c.requires.below c.loop-i-test.true, c.requires.long, c.loop-i.invariant.heads_long)

pub offset_bounds-heads-sum-in-loop-i : goal.offset_bounds-heads-sum-in-loop-i
offset_bounds-heads-sum-in-loop-i c = omega (arith, sum_met _ _ _ _ _ _ _ c.loop-i.invariant c.requires.below c.loop-i-test.true)

pub bounds-heads-sum-in-loop-i : goal.bounds-heads-sum-in-loop-i
bounds-heads-sum-in-loop-i c = omega (arith, sum_met _ _ _ _ _ _ _ c.loop-i.invariant c.requires.below c.loop-i-test.true, c.requires.long, c.loop-i.invariant.heads_long)
