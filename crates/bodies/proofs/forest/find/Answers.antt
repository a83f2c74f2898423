-- `bodies::forest::find` meets its contract. The invariant: the table joins what it joined, and start to i; i falls. Assumes nothing.
use borrow.Author.Rules.{rules}
use native.Mathlib.Omega.{arith}
use Prim.Native.Nat.{◌<◌, ◌-◌}
use lib.ListN.{length, get_or}
use lib.Seq.{get_or-set_same}
use Rattle.lists.specs.Chain.{Chain, stay, ahead}
use Rattle.bodies.specs.Forest.{Kept, Up}
use Rattle.lists.proofs.Chains.{chain_map, chain_trans}
use Rattle.bodies.proofs.Parents.{kept_refl, kept_trans, raised}
use Rattle.bodies.proofs.forest.find.Goals as goal

pub loop-i-init : goal.loop-i-init
loop-i-init c =
    (c.requires.0, kept_refl _ c.requires.1, stay)

pub returns-then-up-i : goal.returns-then-up-i
returns-then-up-i c =
    let I = c.loop-i.invariant in
    record { kept = c.loop-i.invariant.1; within = c.loop-i.invariant.0; top = c.if-up-i.true; way = c.loop-i.invariant.2 }

pub offset_bounds-parent-up : goal.offset_bounds-parent-up
offset_bounds-parent-up c =
    let L = c.loop-i in
    omega (arith, L.invariant.1.down L.i L.invariant.0, L.invariant.1.long)

pub bounds-parent-up : goal.bounds-parent-up
bounds-parent-up c =
    let L = c.loop-i in
    omega (arith, L.invariant.1.down L.i L.invariant.0)

pub loop-i-smaller : goal.loop-i-smaller
loop-i-smaller c =
    let L = c.loop-i in
    let d = L.invariant.1.down L.i L.invariant.0 in
    let u = L.invariant.1.down (get_or L.parent L.i 0) (omega arith) in
    let n = c.if-up-i.false in
    omega (arith, n)

pub loop-i-preserved : goal.loop-i-preserved
loop-i-preserved c =
    let L = c.loop-i in
    let K = L.invariant.1 in
    let p = L.parent in
    let i = L.i in
    let d = c.loop-i.invariant.1.down i L.invariant.0 in
    let u = c.loop-i.invariant.1.down (get_or p i 0) (omega arith) in
    let R = raised p i c.loop-i.invariant.1.down L.invariant.0 in
    let h = R.long in (
      omega arith,
      kept_trans K R,
      chain_trans (chain_map R.more L.invariant.2) (ahead (omega arith, get_or-set_same p i _ 0 L.invariant.0) stay),
    )
