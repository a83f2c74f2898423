-- `fan_reach::link_corners` meets its contract. The invariant: the places from p on are linked. Assumes nothing.
use Rattle.fan_reach.proofs.Corners.{linked_more}
use Rattle.fan_reach.specs.Corners.{LinkedFrom}
use lib.ListN.{length}
use Prim.Native.Nat.{ℕ, ◌+◌, ◌-◌, ◌<◌}
use mathlib.Core.Path.{◌≡◌, sym, ◌∙◌, subst}
use native.Mathlib.Omega.{arith}
use Rattle.fan_reach.proofs.link_corners.Goals as goal

pub loop-p-init : goal.loop-p-init
loop-p-init c = (omega arith, c.requires)

pub loop-p-preserved : goal.loop-p-preserved
loop-p-preserved c = let A = c.args in
    let L = c.loop-p in
    let e : L.p ≡ L.p - 1 + 1 = omega arith in
    let l : L.p - 1 < length A.verts.now = omega arith in
    (omega arith, linked_more A.verts.now L.heads L.nexts (L.p - 1) (subst (λ (m : ℕ). LinkedFrom A.verts.now L.heads L.nexts m) e L.invariant.1) l)

pub shape_of-heads : goal.shape_of-heads
shape_of-heads c = c.loop-p.invariant.1.heads_long ∙ sym c.requires.heads_long

pub shape_of-nexts : goal.shape_of-nexts
shape_of-nexts c = c.loop-p.invariant.1.nexts_long ∙ sym c.requires.nexts_long

pub returns : goal.returns
returns c = let A = c.args in
    let L = c.loop-p in
    let e : L.p ≡ 0 = omega arith in
    subst (λ (m : ℕ). LinkedFrom A.verts.now L.heads L.nexts m) e L.invariant.1
