-- `marks::sides::rounded_sides` meets its contract. The invariant: the rows so far have their sides. Assumes nothing.
use Rattle.marks.proofs.SideLaws.{row_fits, below_at, long_at, per_size, row_in, side_at, sides_none, sides_more, sides_done}
use Rattle.marks.specs.Marking.{blade_from}
use Rattle.elements.specs.Table.{kind_is}
use Rattle.columns.proofs.Cells.{next_col}
use Rattle.lists.specs.Lists.{tab}
use lib.ListN.{length, take, length-set}
use Prim.Native.Nat.{◌≤◌, ◌-◌, ◌*◌, ◌+◌}
use mathlib.Core.Path.{◌≡◌, refl, ◌∙◌}
use borrow.Author.Rules.{rules}
use native.Mathlib.Omega.{arith}
use Rattle.marks.proofs.sides.rounded_sides.Given as goal

-- `marks::sides::rounded_sides` meets its contract. The invariant: the rows so far have their sides. Assumes nothing.
abbrev pub invariant-loop-i : goal.invariant-loop-i
invariant-loop-i l = (l.i ≤ l.n) × (l.at ≡ l.i * l.k) × (length l.sides ≡ length l.initial.sides) × (take l.i l.sides ≡ tab l.i (side_at (blade_from l.b0 l.b1) l.points l.k l.verts l.kept))

abbrev pub decreases-loop-i : goal.decreases-loop-i
decreases-loop-i l = l.n - l.i
