-- `crossing::bends::mark_between` meets its contract: the bend edges at v are marked, then those at its neighbours along the first edges, at each edge that the walk comes to, if they were not walked before. Assumes nothing.
use native.Mathlib.Omega.{arith}
use borrow.Author.Rules.{rules}
use mathlib.Core.Path.{◌∙◌}
use mathlib.Core.Logic.{⊎_elim}
use Rattle.links.proofs.Walked.{still_left}
use Rattle.insert.proofs.Walks.{Walk, walk_head, walk_start, walk_within, walk_row, walk_link, walk_here, walk_more, walk_less, walk_done}
use Rattle.crossing.proofs.BendLaws.{linked_below, SideSeen, side_start, side_skip, side_passed, side_more, side_done}
use Rattle.crossing.proofs.bends.mark_between.Given as goal

-- `crossing::bends::mark_between` meets its contract: the bend edges at v are marked, then those at its neighbours along the first edges, at each edge that the walk comes to, if they were not walked before. Assumes nothing.
abbrev pub invariant-loop-at : goal.invariant-loop-at
invariant-loop-at l = Walk l.e l.ends l.v (SideSeen l.v l.w l.e l.ends l.first l.second l.initial.marks l.marks l.walked) l.at

abbrev pub decreases-loop-at : goal.decreases-loop-at
decreases-loop-at l = still_left l.e l.at
