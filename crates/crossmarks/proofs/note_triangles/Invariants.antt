-- `crossmarks::note_triangles` meets its contract. The invariant: the crossings so far are noted. Assumes nothing.
use Rattle.crossmarks.specs.Noting.{Noted, triangle_marks}
use Rattle.crossmarks.proofs.NotingLaws.{triangles_none, triangles_more, triangles_done, few_of_row, rooms_of_row, offsets_of_row}
use Rattle.marks.specs.Marking.{blade_by}
use mathlib.Core.Path.{◌≡◌, refl, ◌∙◌}
use Prim.Native.Nat.{◌+◌, ◌*◌, ◌-◌, ◌≤◌}
use native.Mathlib.Omega.{arith}
use lib.ListN.{length}
use Rattle.crossmarks.proofs.note_triangles.Given as goal

-- `crossmarks::note_triangles` meets its contract. The invariant: the crossings so far are noted. Assumes nothing.
abbrev pub invariant-loop-i : goal.invariant-loop-i
invariant-loop-i l =
    (l.i ≤ l.t) × (length l.log ≡ length l.initial.log) × Noted (triangle_marks (blade_by l.rule l.b0 l.b1) l.points l.i l.corners) l.n l.initial.log l.log l.m × (l.m ≤ l.n + 3 * l.i)
