-- `marks::particles::mark_candidates` meets its contract. The invariant: the ends that the blade meets of the triangles so far are marked. Assumes nothing.
use Rattle.marks.proofs.MarkLaws.{corners_at, rows_none, rows_more, row_below, cleared_length, candidates_done}
use Rattle.marks.specs.Marking.{Marks, met_of, blade_by}
use Rattle.lists.specs.Lists.{each, tab}
use lib.ListN.{length}
use Prim.Native.Nat.{◌≤◌, ◌-◌}
use mathlib.Core.Path.{◌≡◌, refl, ◌∙◌}
use native.Mathlib.Omega.{arith}
use Rattle.marks.proofs.particles.mark_candidates.Given as goal

-- `marks::particles::mark_candidates` meets its contract. The invariant: the ends that the blade meets of the triangles so far are marked. Assumes nothing.
abbrev pub invariant-loop-i : goal.invariant-loop-i
invariant-loop-i l = (l.i ≤ l.t) × (length l.marks ≡ length l.initial.marks) × Marks (each (met_of (blade_by l.rule l.b0 l.b1) l.points) (tab l.i (corners_at l.corners))) l.marks

abbrev pub decreases-loop-i : goal.decreases-loop-i
decreases-loop-i l = l.t - l.i
