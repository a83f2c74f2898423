-- `arguments::tests::rising` meets its contract. The invariant: the rest rises exactly where the list does. Assumes nothing.
use native.Mathlib.Omega.{arith}
use Prim.Native.Nat.{◌-◌, ◌+◌}
use mathlib.Core.Path.{◌≡◌, refl, sym, ◌∙◌}
use Rattle.arguments.proofs.Rising.{strictly_on, strictly_stop, strictly_end}
use Rattle.arguments.proofs.tests.rising.Goals as goal

pub loop-i-init : goal.loop-i-init
loop-i-init c = refl

pub returns-then-list-i : goal.returns-then-list-i
returns-then-list-i c =
    let L = c.loop-i in
    let e : L.i - 1 + 1 ≡ L.i = omega arith in
    sym (strictly_stop c.args.list.now (L.i - 1) (omega arith) (rw e c.if-list-i.true)) ∙ L.invariant

pub loop-i-preserved : goal.loop-i-preserved
loop-i-preserved c =
    let L = c.loop-i in
    let e : L.i - 1 + 1 ≡ L.i = omega arith in
    let f : L.i + 1 - 1 ≡ L.i - 1 + 1 = omega arith in
    rw f (strictly_on c.args.list.now (L.i - 1) (omega arith) (rw e c.if-list-i.false) ∙ L.invariant)

pub returns : goal.returns
returns c =
    let L = c.loop-i in
    sym (strictly_end c.args.list.now (L.i - 1) (omega arith)) ∙ L.invariant
