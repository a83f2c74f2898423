-- `marks::sides::sign_sides` meets its contract. The invariant: the rows so far have their sides. Assumes nothing.
use Rattle.marks.proofs.SideLaws.{sides_none}
use Rattle.marks.proofs.SignLaws.{triangle_in, sign_side_at, signs_more, signs_done}
use Rattle.marks.specs.Marking.{blade_by}
use Rattle.marks.specs.declared.Rule.TheVariants.{Signs}
use Rattle.lists.specs.Lists.{tab}
use lib.ListN.{length, take, length-set}
use Prim.Native.Nat.{◌≤◌, ◌-◌, ◌*◌, ◌+◌}
use mathlib.Core.Path.{◌≡◌, refl, ◌∙◌}
use mathlib.Core.Logic.{inl}
use borrow.Author.Rules.{rules}
use native.Mathlib.Omega.{arith}
use Rattle.marks.proofs.sides.sign_sides.Goals as goal

pub kept_sign-kept-requires : goal.kept_sign-kept-requires
kept_sign-kept-requires c = let P = c.requires in
    record { size = inl refl; here = P.here; long = P.long; corners_in = P.corners_in }

pub loop-i-init : goal.loop-i-init
loop-i-init c = (omega arith, omega arith, refl, sides_none _ c.args.sides.now)

pub row_sign-s-requires : goal.row_sign-s-requires
row_sign-s-requires c =
    let L = c.loop-i in
    triangle_in c.args.n c.args.verts.now _ c.requires.long c.requires.corners_in L.i L.at (L.at + 3 - L.at) c.loop-i-test.true L.invariant.1 (omega arith)

pub loop-i-preserved : goal.loop-i-preserved
loop-i-preserved c =
    let L = c.loop-i in
    let A = c.args in (
      omega arith,
      omega (arith, L.invariant.1),
      length-set L.sides L.i _ ∙ L.invariant.2,
      signs_more (blade_by Signs A.b0 A.b1) A.points.now A.verts.now c.kept_sign-kept.result L.sides L.i L.at (L.at + 3 - L.at) _ _ L.invariant.3 (omega (arith, c.requires.sides_long, L.invariant.2)) L.invariant.1 (omega arith) c.row_sign-s.ensures c.side_of_sign.ensures,
    )

pub shape_of-sides : goal.shape_of-sides
shape_of-sides c = c.loop-i.invariant.2

pub returns : goal.returns
returns c =
    let L = c.loop-i in
    let A = c.args in
    signs_done A.b0 A.b1 A.points.now A.v A.n L.i A.verts.now c.kept_sign-kept.result L.sides (omega arith) (omega (arith, c.requires.sides_long, L.invariant.2)) c.kept_sign-kept.ensures L.invariant.3
