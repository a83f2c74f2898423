-- `marks::sides::rounded_sides` meets its contract. The invariant: the rows so far have their sides. Assumes nothing.
use Rattle.marks.proofs.SideLaws.{row_fits, below_at, long_at, per_size, row_in, side_at, sides_none, sides_more, sides_done}
use Rattle.marks.specs.Marking.{blade_from}
use Rattle.elements.specs.Table.{kind_is}
use Rattle.columns.proofs.Cells.{next_col}
use Rattle.lists.specs.Lists.{tab}
use lib.ListN.{length, take, length-set}
use Prim.Native.Nat.{◌≤◌, ◌-◌, ◌*◌, ◌+◌}
use mathlib.Core.Path.{◌≡◌, refl, ◌∙◌}
use borrow.Author.Rules.{rules}
use native.Mathlib.Omega.{arith}
use Rattle.marks.proofs.sides.rounded_sides.Goals as goal

pub kept_side-kept-requires : goal.kept_side-kept-requires
kept_side-kept-requires c = let A = c.args in
    let P = c.requires in
    let e = c.corners_per-k.ensures in
    record { size = per_size (kind_is A.kind) _ e; here = P.here; long = long_at A.n _ _ _ e P.long; corners_in = below_at _ _ _ _ A.verts.now e P.corners_in }

pub loop-i-init : goal.loop-i-init
loop-i-init c = let A = c.args in
    (omega arith, omega arith, refl, sides_none _ A.sides.now)

pub slice_bounds-left_of-end : goal.slice_bounds-left_of-end
slice_bounds-left_of-end c = row_fits _ _ _ _ _ _ c.corners_per-k.ensures c.requires.long c.loop-i-test.true c.loop-i.invariant.1

pub left_of-left-requires : goal.left_of-left-requires
left_of-left-requires c = let A = c.args in
    let P = c.requires in
    let e = c.corners_per-k.ensures in
    let k = c.corners_per-k.result in
    let a = c.loop-i.at in
    row_in k A.n A.verts.now _ (per_size (kind_is A.kind) k e) (long_at A.n k _ _ e P.long) (below_at _ _ k _ A.verts.now e P.corners_in) c.loop-i.i a (a + k - a) c.loop-i-test.true c.loop-i.invariant.1 (omega arith)

pub loop-i-preserved : goal.loop-i-preserved
loop-i-preserved c = let A = c.args in
    let L = c.loop-i in
    let k = c.corners_per-k.result in
    let l = row_fits _ _ _ _ _ _ c.corners_per-k.ensures c.requires.long c.loop-i-test.true L.invariant.1 in (
      omega arith,
      omega (arith, next_col L.i k, L.invariant.1),
      length-set L.sides L.i _ ∙ L.invariant.2,
      sides_more (blade_from A.b0 A.b1) A.points.now k A.verts.now c.kept_side-kept.result L.sides L.i L.at (L.at + k - L.at) _ _ L.invariant.3 (omega (arith, c.requires.sides_long, L.invariant.2)) L.invariant.1 (omega arith) c.left_of-left.ensures c.side_of.ensures,
    )

pub shape_of-sides : goal.shape_of-sides
shape_of-sides c = c.loop-i.invariant.2

pub returns : goal.returns
returns c = let A = c.args in
    let L = c.loop-i in
    sides_done (kind_is A.kind) A.b0 A.b1 A.points.now A.v c.corners_per-k.result A.n L.i A.verts.now c.kept_side-kept.result L.sides c.corners_per-k.ensures (omega arith) (omega (arith, c.requires.sides_long, L.invariant.2)) c.kept_side-kept.ensures L.invariant.3
