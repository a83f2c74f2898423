-- `crossing::bends::mark_between` meets its contract: the bend edges at v are marked, then those at its neighbours along the first edges, at each edge that the walk comes to, if they were not walked before. Assumes nothing.
use mathlib.Core.Bool.{not}
use mathlib.Core.Path.{ap}
use native.Mathlib.Omega.{arith}
use borrow.Author.Rules.{rules}
use mathlib.Core.Path.{◌∙◌}
use mathlib.Core.Logic.{⊎_elim}
use Rattle.links.proofs.Walked.{still_left}
use Rattle.insert.proofs.Walks.{Walk, walk_head, walk_start, walk_within, walk_row, walk_link, walk_here, walk_more, walk_less, walk_done}
use Rattle.crossing.proofs.BendLaws.{linked_below, SideSeen, side_start, side_skip, side_passed, side_more, side_done}
use Rattle.crossing.proofs.bends.mark_between.Goals as goal
use Rattle.crossing.proofs.bends.mark_between.Goals.{else-not-is_walked, then-not-is_walked}

pub bounds-walked-v : goal.bounds-walked-v
bounds-walked-v c = c.requires.0.here

pub mark_at-requires : goal.mark_at-requires
mark_at-requires c = c.requires.0

pub first_at-at-requires : goal.first_at-at-requires
first_at-at-requires c = walk_head c.requires.0.linked c.requires.0.here

pub loop-at-init : goal.loop-at-init
loop-at-init c = walk_start c.requires.0.linked c.first_at-at.ensures c.requires.0.here (side_start _ _ _ _ _ _ _ c.requires.0.here)

pub overflow_sub-i : goal.overflow_sub-i
overflow_sub-i c = c.loop-at-test.true

pub neighbour-x-requires : goal.neighbour-x-requires
neighbour-x-requires c = walk_row c.requires.0.linked c.loop-at.invariant c.loop-at-test.true

pub mark_at-requires-then-not-is_walked : goal.mark_at-requires-then-not-is_walked
mark_at-requires-then-not-is_walked c = let P = c.requires.0 in let h = walk_within c.requires.0.linked c.loop-at.invariant c.loop-at-test.true in let E = linked_below c.requires.0.linked in
    record { linked = c.requires.0.linked; here = c.neighbour-x.ensures.below _ c.requires.0.here (E.first _ h) (E.second _ h); first_long = c.requires.0.first_long; second_long = c.requires.0.second_long; marks_long = omega (arith, c.requires.0.marks_long, c.loop-at.invariant.so_far.long, c.mark_at.auto.marks) }

pub next_at-at-requires : goal.next_at-at-requires
next_at-at-requires c = walk_link c.requires.0.linked c.loop-at.invariant c.loop-at-test.true

pub loop-at-smaller : goal.loop-at-smaller
loop-at-smaller c = walk_less c.requires.0.linked c.loop-at.invariant c.loop-at-test.true c.next_at-at.ensures

pub loop-at-preserved : goal.loop-at-preserved
loop-at-preserved c = let P = c.requires.0 in
    let T = c.is_walked in
    let N = c.neighbour-x.ensures in
    let E = linked_below c.requires.0.linked in
    let h = walk_within c.requires.0.linked c.loop-at.invariant c.loop-at-test.true in
    let S = walk_here c.requires.0.linked c.loop-at.invariant c.loop-at-test.true (λ j l n s. side_skip _ _ _ _ _ _ _ _ _ j s n) in
    walk_more c.requires.0.linked c.loop-at.invariant c.loop-at-test.true c.next_at-at.ensures
    (elim c.if-not-is_walked.branch [
      | then-not-is_walked w ↦ side_more _ _ _ _ _ _ _ _ _ _ S _ N _ T.result T.ensures _ (ap not w.if-not-is_walked.true) T.auto.walked _ w.mark_at-then-not-is_walked.auto.marks w.mark_at-then-not-is_walked.ensures w.marks-is
      | else-not-is_walked w ↦ side_passed _ _ _ _ _ _ _ _ _ _ S _ N _ T.result T.ensures _ (N.below _ c.requires.0.here (E.first _ h) (E.second _ h)) (ap not w.if-not-is_walked.false) w.marks-is
    ])

pub shape_of-marks : goal.shape_of-marks
shape_of-marks c = c.loop-at.invariant.so_far.long ∙ c.mark_at.auto.marks

pub returns : goal.returns
returns c = let P = c.requires.0 in
    side_done _ _ _ _ _ _ _ _ _ _ (linked_below c.requires.0.linked) c.requires.0.first_long c.requires.1 c.mark_at.ensures (walk_done c.requires.0.linked c.loop-at.invariant (λ j l n s. side_skip _ _ _ _ _ _ _ _ _ j s n) (omega arith))
