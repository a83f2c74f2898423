-- `marks::sides::sign_sides` meets its contract. The invariant: the rows so far have their sides. Assumes nothing.
use Rattle.marks.proofs.SideLaws.{sides_none}
use Rattle.marks.proofs.SignLaws.{triangle_in, sign_side_at, signs_more, signs_done}
use Rattle.marks.specs.Marking.{blade_by}
use Rattle.marks.specs.declared.Rule.TheVariants.{Signs}
use Rattle.lists.specs.Lists.{tab}
use lib.ListN.{length, take, length-set}
use Prim.Native.Nat.{◌≤◌, ◌-◌, ◌*◌, ◌+◌}
use mathlib.Core.Path.{◌≡◌, refl, ◌∙◌}
use mathlib.Core.Logic.{inl}
use borrow.Author.Rules.{rules}
use native.Mathlib.Omega.{arith}
use Rattle.marks.proofs.sides.sign_sides.Given as goal

-- `marks::sides::sign_sides` meets its contract. The invariant: the rows so far have their sides. Assumes nothing.
abbrev pub invariant-loop-i : goal.invariant-loop-i
invariant-loop-i l = (l.i ≤ l.n) × (l.at ≡ l.i * 3) × (length l.sides ≡ length l.initial.sides) × (take l.i l.sides ≡ tab l.i (sign_side_at (blade_by Signs l.b0 l.b1) l.points l.verts l.kept))

abbrev pub decreases-loop-i : goal.decreases-loop-i
decreases-loop-i l = l.n - l.i
