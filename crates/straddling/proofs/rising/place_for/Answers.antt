-- `straddling::rising::place_for` meets its contract: what stands from `at` on is above i. Assumes nothing.
use native.Mathlib.Omega.{arith}
use Prim.Native.Nat.{ℕ, ◌+◌, ◌-◌, ◌<◌, ◌≤◌}
use mathlib.Core.Path.{◌≡◌}
use lib.ListN.{get_or}
use Rattle.straddling.proofs.PutLaws.{above_more}
use Rattle.straddling.proofs.rising.place_for.Goals as goal

pub loop-at-init : goal.loop-at-init
loop-at-init c = (omega arith, λ k a b. absurd (omega arith))

pub returns-then-list-at : goal.returns-then-list-at
returns-then-list-at c =
    let e : c.loop-at.at - 1 + 1 ≡ c.loop-at.at = omega arith in
    rw e (record { within = c.loop-at.invariant.0; above = c.loop-at.invariant.1; least = λ h. c.if-list-at.true })

pub loop-at-preserved : goal.loop-at-preserved
loop-at-preserved c = (omega (arith, c.loop-at.invariant.0), above_more c.args.i c.args.r c.args.list.now c.loop-at.at c.loop-at-test.true c.loop-at.invariant.1 (omega (arith, c.if-list-at.false)))

pub returns : goal.returns
returns c =
    let e : c.loop-at.at ≡ 0 = omega arith in
    rw (← e) (record { within = c.loop-at.invariant.0; above = c.loop-at.invariant.1; least = λ h. absurd (omega (arith, c.loop-at-test.false)) })
