-- `mesh_tables::corners::triangle_corners` meets its contract: the corners of the triangles that were passed. Assumes nothing.
use borrow.Author.Rules.{rules}
use native.Mathlib.Omega.{arith}
use mathlib.Core.Path.{◌≡◌, refl, ◌∙◌, subst}
use Prim.Native.Nat.{ℕ, ◌*◌, ◌-◌, ◌≤◌}
use lib.ListN.{length, length-set}
use Rattle.mesh_tables.specs.Cornering.{TriangleCorners}
use Rattle.mesh_tables.proofs.Cornering.{triangle_corners_none, triangle_corners_more}
use Rattle.mesh_tables.proofs.corners.triangle_corners.Goals as goal

pub loop-i-init : goal.loop-i-init
loop-i-init c = (omega arith, omega arith, refl, triangle_corners_none c.args.corners.now c.args.verts.now)

pub bounds-verts-o-in-loop-i : goal.bounds-verts-o-in-loop-i
bounds-verts-o-in-loop-i c = simp length-set (omega (arith, c.loop-i.invariant.1, c.loop-i.invariant.2, c.requires.0, c.requires.1))

pub bounds-verts-o-in-loop-i-2 : goal.bounds-verts-o-in-loop-i-2
bounds-verts-o-in-loop-i-2 c = simp length-set (omega (arith, c.loop-i.invariant.1, c.loop-i.invariant.2, c.requires.0, c.requires.1))

pub loop-i-preserved : goal.loop-i-preserved
loop-i-preserved c =
    let A = c.args in
    let L = c.loop-i in (
      omega arith,
      omega (arith, L.invariant.1),
      simp length-set L.invariant.2,
      triangle_corners_more A.corners.now L.verts L.i L.o L.invariant.3 L.invariant.1 (omega (arith, L.invariant.1, L.invariant.2, c.requires.1)),
    )

pub shape_of-verts : goal.shape_of-verts
shape_of-verts c = c.loop-i.invariant.2

pub returns : goal.returns
returns c =
    let A = c.args in
    let L = c.loop-i in
    let e : L.i ≡ A.t = omega (arith, L.invariant.0) in
    subst (λ (m : ℕ). TriangleCorners m A.corners.now L.verts) e L.invariant.3
