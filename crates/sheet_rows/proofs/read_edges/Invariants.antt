-- `sheet_rows::read_edges` meets its contract. Assumes nothing.
use Rattle.sheet_rows.proofs.RowReads.{no_edges, tab_more, triangle_same, edge_made, first_right, two_named, three_named}
use Rattle.sheet.specs.Work.{ok_at_of}
use Rattle.split_plan.specs.Opened.{place_in}
use Rattle.sheet_rows.specs.Work.{edge_bits}
use Rattle.bits.specs.Bits.{num, bits_of, field_at}
use Rattle.mesh.specs.At.{edges_at}
use Rattle.lists.specs.Lists.{tab}
use lib.Ieee.{of_bits}
use lib.ListN.{length}
use Prim.Native.Nat.{ℕ, ◌+◌, ◌*◌, ◌-◌, ◌≤◌}
use native.Mathlib.Omega.{arith}
use mathlib.Core.Path.{◌≡◌, ◌∙◌, refl, subst}
use mathlib.Core.Bool.{Bool, true, false}
use Rattle.sheet_rows.proofs.read_edges.Given as goal

-- `sheet_rows::read_edges` meets its contract. Assumes nothing.
abbrev pub invariant-loop-i : goal.invariant-loop-i
invariant-loop-i l = (l.i ≤ l.n) × (length l.ends ≡ length l.initial.ends) × (length l.lengths ≡ length l.initial.lengths) × (l.pos ≡ l.at + l.i * 21) × (ok_at_of false l.p (bits_of l.s) l.pos 21 (l.n - l.i) ≡ true) × (edges_at l.i l.ends l.lengths ≡ tab l.i (edge_bits (place_in l.points) (bits_of l.s) l.at))
