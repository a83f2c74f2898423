-- `crossmarks::note_straps` meets its contract. The invariant: the crossings so far are noted. Assumes nothing.
use Rattle.crossmarks.specs.Noting.{Noted, strap_marks}
use Rattle.crossmarks.proofs.NotingLaws.{straps_none, straps_turn, straps_done, strap_noted, strap_passed, few_of_pair, room_of_strap}
use Rattle.marks.specs.Marking.{blade_by}
use mathlib.Core.Path.{◌≡◌, refl}
use mathlib.Core.Logic.{⊎_elim}
use Prim.Native.Nat.{◌+◌, ◌-◌, ◌≤◌}
use native.Mathlib.Omega.{arith}
use lib.ListN.{length}
use Rattle.crossmarks.proofs.note_straps.Given as goal

-- `crossmarks::note_straps` meets its contract. The invariant: the crossings so far are noted. Assumes nothing.
abbrev pub invariant-loop-i : goal.invariant-loop-i
invariant-loop-i l =
    (l.i ≤ l.e) × (length l.log ≡ length l.initial.log) × Noted (strap_marks (blade_by l.rule l.b0 l.b1) l.points l.i l.ends) l.n l.initial.log l.log l.m × (l.m ≤ l.n + l.i)
