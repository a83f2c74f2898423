-- `arguments::tests::all_below` meets its contract. The invariant: whether all of the rest are below n is whether all of the list are. Assumes nothing.
use native.Mathlib.Omega.{arith}
use mathlib.Core.Path.{refl, sym, ◌∙◌}
use lib.Dec.{ltb}
use borrow.Author.Tests.{lt-ltb, le-ltb}
use Rattle.elements.proofs.Measures.{all_on, all_stop, all_end}
use Rattle.arguments.proofs.tests.all_below.Goals as goal

pub loop-x-init : goal.loop-x-init
loop-x-init c = (omega arith, refl)

pub returns-then-x-n : goal.returns-then-x-n
returns-then-x-n c =
    let L = c.loop-x in
    let A = c.args in
    sym (all_stop (λ x. ltb x A.n) A.list.now L.x-index (omega arith) (le-ltb _ _ c.if-x-n.true)) ∙ L.invariant.1

pub loop-x-preserved : goal.loop-x-preserved
loop-x-preserved c =
    let L = c.loop-x in
    let A = c.args in
    (omega arith, all_on (λ x. ltb x A.n) A.list.now L.x-index (omega arith) (lt-ltb _ _ c.if-x-n.false) ∙ L.invariant.1)

pub returns : goal.returns
returns c =
    let L = c.loop-x in
    let A = c.args in
    sym (all_end (λ x. ltb x A.n) A.list.now L.x-index (omega arith)) ∙ L.invariant.1
