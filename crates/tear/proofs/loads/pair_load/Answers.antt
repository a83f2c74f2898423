-- `tear::loads::pair_load` meets its contract: the loop over the edges of one sum is `Walking` of proofs/LoadLaws.antt. Assumes nothing.
use Prim.Native.Nat.{◌+◌, ◌-◌}
use native.Mathlib.Omega.{arith}
use mathlib.Core.Logic.{⊎_elim}
use mathlib.Core.Path.{refl}
use lib.Ieee.{of_bits}
use Rattle.tear.proofs.LoadLaws.{Walking, finding_start, finding_in, finding_out, walking_on, finding_some, finding_none}
use borrow.Author.Rules.{rules}
use Rattle.tear.proofs.loads.pair_load.Goals as goal
use Rattle.tear.proofs.loads.pair_load.Goals.{else-both_ends, then-both_ends}

pub overflow_cast-i : goal.overflow_cast-i
overflow_cast-i c = let A = c.args in omega (arith, c.shared_slice_known-5-1.given (A.x + A.y))

pub loop-i-init : goal.loop-i-init
unfolding of_bits
loop-i-init c = let P = c.requires in
    walking_on _ _ _ _ _ _ _ 0 _ _ P.2.differ (finding_start _ _ _ _ _) refl (P.1.linked.head _ (omega (arith, P.2.first, P.2.second)))

pub loop-i-smaller : goal.loop-i-smaller
loop-i-smaller c = omega (arith, (c.requires.1.linked.next _ (omega arith) c.loop-i-test.true).from, c.loop-i-test.true)

pub loop-i-preserved : goal.loop-i-preserved
loop-i-preserved c = let P = c.requires in let W = c.loop-i.invariant in let h = c.loop-i-test.true in
    elim c.if-both_ends.branch [
      | then-both_ends w ↦ walking_on _ _ _ _ _ _ _ _ _ _ P.2.differ (finding_in _ _ _ _ _ _ _ _ c.loop-i.invariant.finding h _ c.both_ends.ensures w.if-both_ends.true _ _ _ w.larger-most.ensures w.most-is w.found-is) (c.loop-i.invariant.sums h) (P.1.linked.next _ (omega arith) h)
      | else-both_ends w ↦ walking_on _ _ _ _ _ _ _ _ _ _ P.2.differ (finding_out _ _ _ _ _ _ _ _ c.loop-i.invariant.finding h _ c.both_ends.ensures w.if-both_ends.false _ _ w.most-is w.found-is) (c.loop-i.invariant.sums h) (P.1.linked.next _ (omega arith) h)
    ]

pub returns-then-found : goal.returns-then-found
returns-then-found c = finding_some _ _ _ _ _ _ _ _ _ c.loop-i.invariant.finding (search rules) c.if-found.true _ c.larger.ensures

pub returns : goal.returns
returns c = finding_none _ _ _ _ _ _ _ _ _ c.loop-i.invariant.finding (search rules) c.if-found.false
