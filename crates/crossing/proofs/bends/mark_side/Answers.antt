-- `crossing::bends::mark_side` meets its contract: v and its neighbours along the first edges are marked, at each edge that the walk comes to. Assumes nothing.
use native.Mathlib.Omega.{arith}
use mathlib.Core.Path.{◌∙◌}
use lib.ListN.{length-set}
use Rattle.links.proofs.Walked.{still_left}
use Rattle.insert.proofs.Walks.{Walk, walk_head, walk_start, walk_within, walk_row, walk_link, walk_here, walk_more, walk_less, walk_done}
use Rattle.crossing.proofs.BendLaws.{linked_below, SideMarking, marking_start, marking_step, marking_skip, marking_done}
use Rattle.crossing.proofs.bends.mark_side.Goals as goal

pub first_at-at-requires : goal.first_at-at-requires
first_at-at-requires c = walk_head c.requires.linked c.requires.here

pub loop-at-init : goal.loop-at-init
loop-at-init c = walk_start c.requires.linked c.first_at-at.ensures c.requires.here (marking_start _ _ _ _ _ _ c.requires)

pub overflow_sub-i : goal.overflow_sub-i
overflow_sub-i c = c.loop-at-test.true

pub neighbour-x-requires : goal.neighbour-x-requires
neighbour-x-requires c = walk_row c.requires.linked c.loop-at.invariant c.loop-at-test.true

pub bounds-side-x : goal.bounds-side-x
bounds-side-x c = let h = walk_within c.requires.linked c.loop-at.invariant c.loop-at-test.true in let E = linked_below c.requires.linked in
    omega (arith, c.neighbour-x.ensures.below _ c.requires.here (E.first _ h) (E.second _ h), c.loop-at.invariant.so_far.long, length-set c.args.side.now c.args.v 1, c.requires.long)

pub next_at-at-requires : goal.next_at-at-requires
next_at-at-requires c = walk_link c.requires.linked c.loop-at.invariant c.loop-at-test.true

pub loop-at-smaller : goal.loop-at-smaller
loop-at-smaller c = walk_less c.requires.linked c.loop-at.invariant c.loop-at-test.true c.next_at-at.ensures

pub loop-at-preserved : goal.loop-at-preserved
loop-at-preserved c = let h = walk_within c.requires.linked c.loop-at.invariant c.loop-at-test.true in let E = linked_below c.requires.linked in
    walk_more c.requires.linked c.loop-at.invariant c.loop-at-test.true c.next_at-at.ensures
    (marking_step _ _ _ _ _ _ _ (walk_here c.requires.linked c.loop-at.invariant c.loop-at-test.true (λ j l n s. marking_skip _ _ _ _ _ _ j s l n)) _ h c.neighbour-x.ensures
    (omega (arith, c.neighbour-x.ensures.below _ c.requires.here (E.first _ h) (E.second _ h), c.loop-at.invariant.so_far.long, length-set c.args.side.now c.args.v 1, c.requires.long)))

pub shape_of-side : goal.shape_of-side
shape_of-side c = c.loop-at.invariant.so_far.long ∙ length-set c.args.side.now c.args.v 1

pub returns : goal.returns
returns c = marking_done _ _ _ _ _ _ _ (walk_done c.requires.linked c.loop-at.invariant (λ j l n s. marking_skip _ _ _ _ _ _ j s l n) (omega arith)) (omega arith)
