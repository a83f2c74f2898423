-- `sheet_rows::read_triangles` meets its contract. Assumes nothing.
use Rattle.sheet_rows.proofs.RowReads.{no_triangles, tab_more, triangle_same, edge_made, first_right, two_named, three_named}
use Rattle.sheet.specs.Work.{ok_at_of}
use Rattle.split_plan.specs.Opened.{place_in}
use Rattle.sheet_rows.specs.Work.{triangle_bits}
use Rattle.bits.specs.Bits.{num, bits_of, field_at}
use Rattle.mesh.specs.At.{triangles_at}
use Rattle.lists.specs.Lists.{tab}
use lib.Ieee.{of_bits}
use lib.ListN.{length}
use Prim.Native.Nat.{ℕ, ◌+◌, ◌*◌, ◌-◌, ◌≤◌}
use native.Mathlib.Omega.{arith}
use mathlib.Core.Path.{◌≡◌, ◌∙◌, refl, subst}
use mathlib.Core.Bool.{Bool, true, false}
use Rattle.sheet_rows.proofs.read_triangles.Given as goal

-- `sheet_rows::read_triangles` meets its contract. Assumes nothing.
abbrev pub invariant-loop-i : goal.invariant-loop-i
invariant-loop-i l = (l.i ≤ l.n) × (length l.corners ≡ length l.initial.corners) × (length l.volumes ≡ length l.initial.volumes) × (l.pos ≡ l.at + l.i * 30) × (ok_at_of true l.p (bits_of l.s) l.pos 30 (l.n - l.i) ≡ true) × (triangles_at l.i l.corners l.volumes ≡ tab l.i (triangle_bits (place_in l.points) (bits_of l.s) l.at))
