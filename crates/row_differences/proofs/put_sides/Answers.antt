-- `row_differences::put_sides` meets its contract: the columns of the blocks are those of the outlines. Assumes nothing.
use lib.Seq.{length-take-le}
use mathlib.Core.Path.{sym}
use Rattle.row_differences.proofs.Walking.{sides_asked, side_rows, part_is}
use Rattle.differences.proofs.Writing.{lists_as}
use Rattle.differences.specs.declared.Part.TheVariants.{Boundary}
use Rattle.differences.specs.Differences.{rows_differ}
use Prim.Native.Nat.{ℕ}
use mathlib.Core.List.{List}
use mathlib.Core.Path.{refl, ap₂}
use native.Mathlib.Omega.{arith}
use Rattle.row_differences.proofs.put_sides.Goals as goal

pub slice_bounds-put_rows-end : goal.slice_bounds-put_rows-end
slice_bounds-put_rows-end c = sym (length-take-le _ _ (omega (arith, c.requires.first)))

pub slice_bounds-put_rows-end-3 : goal.slice_bounds-put_rows-end-3
slice_bounds-put_rows-end-3 c = sym (length-take-le _ _ (omega (arith, c.requires.first)))

pub slice_bounds-put_rows-end-4 : goal.slice_bounds-put_rows-end-4
slice_bounds-put_rows-end-4 c = sym (length-take-le _ _ (omega (arith, c.requires.second)))

pub slice_bounds-put_rows-end-6 : goal.slice_bounds-put_rows-end-6
slice_bounds-put_rows-end-6 c = sym (length-take-le _ _ (omega (arith, c.requires.second)))

pub put_rows-requires : goal.put_rows-requires
put_rows-requires c = let a = c.args in let p = c.requires in sides_asked a.n a.m _ a.left.now a.right.now _ _ _ _ p refl (part_is _ a.n a.left.now) refl (part_is _ a.m a.right.now)

pub shape_of-out : goal.shape_of-out
shape_of-out c = c.put_rows.auto.out

pub returns : goal.returns
returns c = let a = c.args in let p = c.requires in lists_as c.put_rows.ensures (ap₂ (λ (f g : List (List ℕ)). rows_differ Boundary 0 f g) (side_rows a.n a.left.now _ _ _ p.first refl (part_is _ a.n a.left.now)) (side_rows a.m a.right.now _ _ _ p.second refl (part_is _ a.m a.right.now)))
