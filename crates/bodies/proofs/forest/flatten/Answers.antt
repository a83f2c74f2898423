-- `bodies::forest::flatten` meets its contract. The invariant: the table joins what it joined, and is flat below i. Assumes nothing.
use borrow.Author.Rules.{rules}
use native.Mathlib.Omega.{arith}
use mathlib.Core.Path.{◌≡◌}
use Prim.Native.Nat.{ℕ, ◌<◌, ◌≤◌, ◌-◌}
use native.Mathlib.Nat.{not-suc-le-zero}
use lib.ListN.{length, get_or, length-set}
use Rattle.bodies.specs.Forest.{Kept}
use Rattle.bodies.proofs.Parents.{kept_refl, kept_trans, raised, raised_flat}
use Rattle.bodies.proofs.forest.flatten.Goals as goal

pub loop-i-init : goal.loop-i-init
loop-i-init c =
    (search rules, kept_refl _ c.requires, λ a l. absurd (not-suc-le-zero l))

pub offset_bounds-parent-up : goal.offset_bounds-parent-up
offset_bounds-parent-up c =
    let L = c.loop-i in
    omega (arith, L.invariant.1.down L.i (omega arith), L.invariant.1.long)

pub bounds-parent-up : goal.bounds-parent-up
bounds-parent-up c =
    let L = c.loop-i in
    omega (arith, L.invariant.1.down L.i (omega arith))

pub loop-i-smaller : goal.loop-i-smaller
loop-i-smaller c =
    simp length-set (omega arith)

pub loop-i-preserved : goal.loop-i-preserved
loop-i-preserved c =
    let L = c.loop-i in
    let K = L.invariant.1 in (
      simp length-set (omega arith),
      kept_trans K (raised L.parent L.i c.loop-i.invariant.1.down (search rules)),
      raised_flat L.parent L.i c.loop-i.invariant.1.down (search rules) L.invariant.2,
    )

pub returns : goal.returns
returns c =
    let L = c.loop-i in
    record { kept = L.invariant.1; flat = (λ a l. L.invariant.2 a (let e = L.invariant.1.long in omega arith)) }
