-- `mesh_tables::fans::triangle_corners` meets its contract: the invariant is the fan among the rows that were passed. The laws are in proofs/FanLaws.antt.
use mathlib.Core.Path.{subst}
use Prim.Native.Nat.{ℕ, ◌≤◌, ◌-◌}
use native.Mathlib.Omega.{arith}
use mathlib.Core.Path.{◌≡◌, refl, sym, ap, ◌∙◌}
use mathlib.Core.List.{List}
use mathlib.Core.Logic.{⊎_elim}
use lib.Ieee.{Float}
use lib.ListN.{length}
use Rattle.mesh_tables.specs.Fans.{CornersRead, triangles_with}
use Rattle.mesh_tables.proofs.FanLaws.{corners_none, corners_skip, corners_take, triangles_held, no_triangles}
use Rattle.mesh_tables.proofs.fans.triangle_corners.Goals as goal
use Rattle.mesh_tables.proofs.fans.triangle_corners.Goals.{else-triangle_holds, then-triangle_holds}

pub loop-i-init : goal.loop-i-init
loop-i-init c = let A = c.args in (λ M. rw (no_triangles A.v A.corners.now M) (corners_none 3 _), refl, omega arith, omega arith)

pub loop-i-preserved : goal.loop-i-preserved
loop-i-preserved c = let A = c.args in
    let inv = c.loop-i.invariant in
    let said = sym c.triangle_holds.ensures in
    elim c.if-triangle_holds.branch [
      | then-triangle_holds w ↦ rw (w.verts-is, w.r-is) ((λ M. corners_take _ _ _ _ (triangles_held A.v A.corners.now M _) 3 _ _ _ (c.loop-i.invariant.0 M) (said ∙ w.if-triangle_holds.true) refl w.put_three.ensures), w.put_three.ensures.long ∙ c.loop-i.invariant.1, omega arith, omega arith)
      | else-triangle_holds w ↦ rw (w.verts-is, w.r-is) ((λ M. corners_skip _ _ _ _ (triangles_held A.v A.corners.now M _) 3 _ _ (c.loop-i.invariant.0 M) (said ∙ w.if-triangle_holds.false)), c.loop-i.invariant.1, omega arith, omega arith)
    ]

pub shape_of-verts : goal.shape_of-verts
shape_of-verts c = c.loop-i.invariant.1

pub returns : goal.returns
returns c = let A = c.args in
    let L = c.loop-i in
    let q : L.i ≡ A.t = omega (arith, L.invariant.3) in
    λ M. subst (λ (j : ℕ). CornersRead 3 (triangles_with A.v j A.corners.now M) L.r L.verts) q (L.invariant.0 M)
