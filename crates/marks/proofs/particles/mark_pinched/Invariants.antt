-- `marks::particles::mark_pinched` meets its contract. The invariant: the corners of the triangles so far that have a near one are marked. Assumes nothing.
use Rattle.marks.proofs.MarkLaws.{corners_at, rows_none, rows_more, row_below, cleared_length, pinched_done}
use Rattle.marks.specs.Marking.{Marks, near_row}
use Rattle.lists.specs.Lists.{each, tab}
use lib.ListN.{length}
use Prim.Native.Nat.{◌≤◌, ◌-◌}
use mathlib.Core.Path.{◌≡◌, refl, ◌∙◌}
use native.Mathlib.Omega.{arith}
use Rattle.marks.proofs.particles.mark_pinched.Given as goal

-- `marks::particles::mark_pinched` meets its contract. The invariant: the corners of the triangles so far that have a near one are marked. Assumes nothing.
abbrev pub invariant-loop-i : goal.invariant-loop-i
invariant-loop-i l = (l.i ≤ l.t) × (length l.marks ≡ length l.initial.marks) × Marks (each (near_row l.near) (tab l.i (corners_at l.corners))) l.marks

abbrev pub decreases-loop-i : goal.decreases-loop-i
decreases-loop-i l = l.t - l.i
