-- `marks::particles::mark_near` meets its contract. The invariant: the ends of the entries so far are marked. Assumes nothing.
use Rattle.marks.proofs.MarkLaws.{rows_none, rows_more, cleared_length, entry_split, entry_other, near_done}
use Rattle.marks.specs.Marking.{Marks, ends_in_of}
use Rattle.mesh.specs.Log.{entry_row}
use Rattle.lists.specs.Lists.{each, tab}
use lib.ListN.{length}
use Prim.Native.Nat.{◌≤◌, ◌-◌, ◌+◌, ◌*◌}
use mathlib.Core.Logic.{⊎_elim}
use mathlib.Core.Path.{◌≡◌, refl, ◌∙◌}
use native.Mathlib.Omega.{arith}
use Rattle.marks.proofs.particles.mark_near.Given as goal

-- `marks::particles::mark_near` meets its contract. The invariant: the ends of the entries so far are marked. Assumes nothing.
abbrev pub invariant-loop-i : goal.invariant-loop-i
invariant-loop-i l = (l.i ≤ l.l) × (length l.near ≡ length l.initial.near) × Marks (each ends_in_of (tab l.i (entry_row l.log))) l.near

abbrev pub decreases-loop-i : goal.decreases-loop-i
decreases-loop-i l = l.l - l.i
