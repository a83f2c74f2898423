-- `mesh_tables::corners::strap_corners` meets its contract: the corners of the straps among the edges that were passed. Assumes nothing.
use borrow.Author.Rules.{rules}
use native.Mathlib.Omega.{arith}
use mathlib.Core.Path.{◌≡◌, refl, ◌∙◌, subst}
use mathlib.Core.Logic.{⊎_elim}
use Prim.Native.Nat.{ℕ, ◌*◌, ◌-◌, ◌<◌, ◌≤◌}
use lib.ListN.{length, length-set}
use Rattle.mesh_tables.specs.Cornering.{StrapCorners}
use Rattle.mesh_tables.proofs.Cornering.{strap_corners_none, strap_corners_skip, strap_corners_take}
use Rattle.mesh_tables.proofs.corners.strap_corners.Goals as goal
use Rattle.mesh_tables.proofs.corners.strap_corners.Goals.{else-ends-c-eq1, then-ends-c-eq1}

pub loop-i-init : goal.loop-i-init
loop-i-init c = (omega arith, omega arith, omega arith, refl, strap_corners_none c.args.ends.now c.args.verts.now)

pub bounds-verts-o-then-ends-c-eq1 : goal.bounds-verts-o-then-ends-c-eq1
bounds-verts-o-then-ends-c-eq1 c = simp length-set (omega (arith, c.loop-i.invariant.1, c.loop-i.invariant.2, c.loop-i.invariant.3, c.requires.0, c.requires.1))

pub loop-i-preserved : goal.loop-i-preserved
loop-i-preserved c =
    let A = c.args in
    let P = c.requires in
    let L = c.loop-i in
    let E = A.ends.now in
    let l : L.i < A.e = search rules in
    elim c.if-ends-c-eq1.branch [
      | then-ends-c-eq1 w ↦ rw (w.verts-is, w.n-is, w.o-is) (omega arith, omega (arith, L.invariant.1), omega (arith, L.invariant.2), simp length-set L.invariant.3, strap_corners_take E L.verts L.i L.n L.o L.invariant.4 L.invariant.2 L.invariant.1 w.if-ends-c-eq1.true (omega (arith, L.invariant.1, L.invariant.2, L.invariant.3, P.1)))
      | else-ends-c-eq1 w ↦ rw (w.verts-is, w.n-is, w.o-is) (omega arith, omega (arith, L.invariant.1), L.invariant.2, L.invariant.3, strap_corners_skip E L.verts L.i L.n L.o L.invariant.4 L.invariant.2 L.invariant.1 w.if-ends-c-eq1.false)
    ]

pub shape_of-verts : goal.shape_of-verts
shape_of-verts c = c.loop-i.invariant.3

pub returns : goal.returns
returns c =
    let A = c.args in
    let L = c.loop-i in
    let e : L.i ≡ A.e = omega (arith, L.invariant.0) in
    subst (λ (m : ℕ). StrapCorners m A.ends.now L.n L.verts) e L.invariant.4
