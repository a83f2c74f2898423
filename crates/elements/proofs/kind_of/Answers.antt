-- `elements::kind_of` meets its contract. The invariant: no edge that was passed is structural. Assumes nothing.
use native.Mathlib.Omega.{arith}
use borrow.Author.Count.{below_more}
use Rattle.elements.proofs.Found.{kind_triangles, kind_straps, kind_nothing}
use Rattle.elements.proofs.kind_of.Goals as goal

pub returns-then-t-ne0 : goal.returns-then-t-ne0
returns-then-t-ne0 c = kind_triangles _ _ _ c.if-t-ne0.true

pub loop-i-init : goal.loop-i-init
loop-i-init c = (omega arith, λ k h. absurd (omega arith))

pub returns-then-ends-c-eq1 : goal.returns-then-ends-c-eq1
returns-then-ends-c-eq1 c = kind_straps _ _ _ _ c.if-t-ne0.false c.loop-i-test.true c.if-ends-c-eq1.true

pub loop-i-preserved : goal.loop-i-preserved
loop-i-preserved c = (omega arith, below_more _ _ c.loop-i.invariant.1 c.if-ends-c-eq1.false)

pub returns : goal.returns
returns c = kind_nothing _ _ _ c.if-t-ne0.false (λ k h. c.loop-i.invariant.1 k (omega arith))
