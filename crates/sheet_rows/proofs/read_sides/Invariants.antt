-- `sheet_rows::read_sides` meets its contract. Assumes nothing.
use Rattle.sheet_rows.proofs.RowReads.{no_sides, tab_more, side_same}
use Rattle.sheet_rows.specs.Work.{side_bits}
use Rattle.bits.specs.Bits.{bits_of}
use Rattle.mesh.specs.At.{boundary_at}
use Rattle.lists.specs.Lists.{tab}
use lib.ListN.{length}
use Prim.Native.Nat.{ℕ, ◌+◌, ◌*◌, ◌-◌, ◌≤◌}
use native.Mathlib.Omega.{arith}
use mathlib.Core.Path.{◌≡◌, ◌∙◌, refl, subst}
use Rattle.sheet_rows.proofs.read_sides.Given as goal

-- `sheet_rows::read_sides` meets its contract. Assumes nothing.
abbrev pub invariant-loop-i : goal.invariant-loop-i
invariant-loop-i l = (l.i ≤ l.n) × (length l.outline ≡ length l.initial.outline) × (l.pos ≡ l.at + l.i * 20) × (boundary_at l.i l.outline ≡ tab l.i (side_bits (bits_of l.s) l.at))
