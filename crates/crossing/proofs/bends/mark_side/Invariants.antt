-- `crossing::bends::mark_side` meets its contract: v and its neighbours along the first edges are marked, at each edge that the walk comes to. Assumes nothing.
use native.Mathlib.Omega.{arith}
use mathlib.Core.Path.{◌∙◌}
use lib.ListN.{length-set}
use Rattle.links.proofs.Walked.{still_left}
use Rattle.insert.proofs.Walks.{Walk, walk_head, walk_start, walk_within, walk_row, walk_link, walk_here, walk_more, walk_less, walk_done}
use Rattle.crossing.proofs.BendLaws.{linked_below, SideMarking, marking_start, marking_step, marking_skip, marking_done}
use Rattle.crossing.proofs.bends.mark_side.Given as goal

-- `crossing::bends::mark_side` meets its contract: v and its neighbours along the first edges are marked, at each edge that the walk comes to. Assumes nothing.
abbrev pub invariant-loop-at : goal.invariant-loop-at
invariant-loop-at l = Walk l.e l.ends l.v (SideMarking l.v l.w l.e l.ends l.initial.side l.side) l.at

abbrev pub decreases-loop-at : goal.decreases-loop-at
decreases-loop-at l = still_left l.e l.at
