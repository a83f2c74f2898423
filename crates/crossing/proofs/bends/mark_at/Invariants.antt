-- `crossing::bends::mark_at` meets its contract: the bend edges of the first edges that are at x are marked, at each edge that the walk comes to. Assumes nothing.
use native.Mathlib.Omega.{arith}
use mathlib.Core.Path.{sym, subst}
use mathlib.Core.Logic.{⊎_elim}
use mathlib.Core.List.{List}
use Prim.Native.Nat.{ℕ, suc, ◌-◌}
use Rattle.links.proofs.Walked.{still_left}
use Rattle.insert.proofs.Walks.{Walk, walk_head, walk_start, walk_within, walk_row, walk_link, walk_here, walk_more, walk_less, walk_done}
use Rattle.crossing.proofs.BendLaws.{linked_below, AtSeen, at_start, at_skip, at_taken, at_left, at_done}
use Rattle.crossing.proofs.bends.mark_at.Given as goal

-- `crossing::bends::mark_at` meets its contract: the bend edges of the first edges that are at x are marked, at each edge that the walk comes to. Assumes nothing.
abbrev pub invariant-loop-at : goal.invariant-loop-at
invariant-loop-at l = Walk l.e l.ends l.x (AtSeen l.x l.e l.ends l.first l.second l.initial.marks l.marks) l.at

abbrev pub decreases-loop-at : goal.decreases-loop-at
decreases-loop-at l = still_left l.e l.at
