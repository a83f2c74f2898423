-- `crossing::bends::mark_at` meets its contract: the bend edges of the first edges that are at x are marked, at each edge that the walk comes to. Assumes nothing.
use native.Mathlib.Omega.{arith}
use mathlib.Core.Path.{sym, subst}
use mathlib.Core.Logic.{⊎_elim}
use mathlib.Core.List.{List}
use Prim.Native.Nat.{ℕ, suc, ◌-◌}
use Rattle.links.proofs.Walked.{still_left}
use Rattle.insert.proofs.Walks.{Walk, walk_head, walk_start, walk_within, walk_row, walk_link, walk_here, walk_more, walk_less, walk_done}
use Rattle.crossing.proofs.BendLaws.{linked_below, AtSeen, at_start, at_skip, at_taken, at_left, at_done}
use Rattle.crossing.proofs.bends.mark_at.Goals as goal
use Rattle.crossing.proofs.bends.mark_at.Goals.{else-bend, then-bend}

pub first_at-at-requires : goal.first_at-at-requires
first_at-at-requires c = walk_head c.requires.linked c.requires.here

pub loop-at-init : goal.loop-at-init
loop-at-init c = walk_start c.requires.linked c.first_at-at.ensures c.requires.here (at_start _ _ _ _ _ _)

pub overflow_sub-i : goal.overflow_sub-i
overflow_sub-i c = c.loop-at-test.true

pub bend-requires : goal.bend-requires
bend-requires c = let h = walk_within c.requires.linked c.loop-at.invariant c.loop-at-test.true in let E = linked_below c.requires.linked in
    let a = E.first _ h in let b = E.second _ h in
    record { here = walk_row c.requires.linked c.loop-at.invariant c.loop-at-test.true; a_first = omega (arith, c.requires.first_long, a); a_second = omega (arith, c.requires.second_long, a); b_first = omega (arith, c.requires.first_long, b); b_second = omega (arith, c.requires.second_long, b) }

pub offset_bounds-marks-i : goal.offset_bounds-marks-i
offset_bounds-marks-i c = let h = walk_within c.requires.linked c.loop-at.invariant c.loop-at-test.true in omega (arith, h, c.requires.marks_long, c.requires.linked.few, c.loop-at.invariant.so_far.long)

pub bounds-marks-i : goal.bounds-marks-i
bounds-marks-i c = let h = walk_within c.requires.linked c.loop-at.invariant c.loop-at-test.true in omega (arith, h, c.requires.marks_long, c.requires.linked.few, c.loop-at.invariant.so_far.long)

pub next_at-at-requires : goal.next_at-at-requires
next_at-at-requires c = walk_link c.requires.linked c.loop-at.invariant c.loop-at-test.true

pub loop-at-smaller : goal.loop-at-smaller
loop-at-smaller c = walk_less c.requires.linked c.loop-at.invariant c.loop-at-test.true c.next_at-at.ensures

pub loop-at-preserved : goal.loop-at-preserved
loop-at-preserved c = let A = c.args in
    let i = c.loop-at.at - 1 in
    let h = walk_within c.requires.linked c.loop-at.invariant c.loop-at-test.true in
    let S = walk_here c.requires.linked c.loop-at.invariant c.loop-at-test.true (λ j l n s. at_skip _ _ _ _ _ _ _ j s n) in
    walk_more c.requires.linked c.loop-at.invariant c.loop-at-test.true c.next_at-at.ensures
    (elim c.if-bend.branch [
      | then-bend w ↦ subst (λ (l : List ℕ). AtSeen A.x A.e A.ends.now A.first.now A.second.now A.marks.now l (suc i)) (sym w.marks-is) (at_taken _ _ _ _ _ _ _ _ S _ h (omega (arith, c.requires.marks_long, S.long)) c.bend.ensures w.if-bend.true)
      | else-bend w ↦ subst (λ (l : List ℕ). AtSeen A.x A.e A.ends.now A.first.now A.second.now A.marks.now l (suc i)) (sym w.marks-is) (at_left _ _ _ _ _ _ _ _ S _ c.bend.ensures w.if-bend.false)
    ])

pub shape_of-marks : goal.shape_of-marks
shape_of-marks c = c.loop-at.invariant.so_far.long

pub returns : goal.returns
returns c = at_done _ _ _ _ _ _ _ (walk_done c.requires.linked c.loop-at.invariant (λ j l n s. at_skip _ _ _ _ _ _ _ j s n) (omega arith))
