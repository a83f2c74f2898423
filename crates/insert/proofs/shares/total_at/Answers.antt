-- `insert::shares::total_at` meets its contract: the sum of the first edges is known at each edge that the walk comes to (proofs/Walks.antt). Assumes nothing.
use native.Mathlib.Omega.{arith}
use mathlib.Core.Path.{◌≡◌, sym, ◌∙◌}
use mathlib.Core.Logic.{⊎_elim}
use lib.Ieee.{of_bits}
use Rattle.mesh.specs.At.{edges_at}
use Rattle.links.proofs.Walked.{still_left}
use Rattle.insert.specs.Shares.{total_at_of}
use Rattle.insert.proofs.Walks.{Walk, walk_head, walk_start, walk_within, walk_holds, walk_row, walk_link, walk_here, walk_more, walk_less, walk_done}
use Rattle.insert.proofs.ShareLaws.{total_none, total_skip, total_taken, total_left}
use Rattle.insert.proofs.shares.total_at.Goals as goal
use Rattle.insert.proofs.shares.total_at.Goals.{else-ends-rows-eq1, then-ends-rows-eq1}

pub first_at-at-requires : goal.first_at-at-requires
first_at-at-requires c = walk_head c.requires.linked c.requires.here

pub loop-at-init : goal.loop-at-init
unfolding of_bits
loop-at-init c = walk_start c.requires.linked c.first_at-at.ensures c.requires.here (sym (total_none _ _ _))

pub overflow_sub-i : goal.overflow_sub-i
overflow_sub-i c = c.loop-at-test.true

pub next_at-at-requires : goal.next_at-at-requires
next_at-at-requires c = walk_link c.requires.linked c.loop-at.invariant c.loop-at-test.true

pub loop-at-smaller : goal.loop-at-smaller
loop-at-smaller c = walk_less c.requires.linked c.loop-at.invariant c.loop-at-test.true c.next_at-at.ensures

pub loop-at-preserved : goal.loop-at-preserved
loop-at-preserved c = let h = walk_holds c.requires.linked c.loop-at.invariant c.loop-at-test.true in
    let q = walk_here c.requires.linked c.loop-at.invariant c.loop-at-test.true (λ j l n s. total_skip _ _ _ j _ n s) in
    walk_more c.requires.linked c.loop-at.invariant c.loop-at-test.true c.next_at-at.ensures
    (elim c.if-ends-rows-eq1.branch [
      | then-ends-rows-eq1 w ↦ w.s-is ∙ total_taken _ _ _ _ _ h q w.if-ends-rows-eq1.true
      | else-ends-rows-eq1 w ↦ w.s-is ∙ total_left _ _ _ _ _ h q w.if-ends-rows-eq1.false
    ])

pub returns : goal.returns
returns c = walk_done c.requires.linked c.loop-at.invariant (λ j l n s. total_skip _ _ _ j _ n s) (omega arith)

pub overflow_add-rows : goal.overflow_add-rows
overflow_add-rows c = omega (arith, walk_row c.requires.linked c.loop-at.invariant c.loop-at-test.true)

pub offset_bounds-ends-rows : goal.offset_bounds-ends-rows
offset_bounds-ends-rows c = omega (arith, walk_row c.requires.linked c.loop-at.invariant c.loop-at-test.true)

pub bounds-ends-rows : goal.bounds-ends-rows
bounds-ends-rows c = omega (arith, walk_row c.requires.linked c.loop-at.invariant c.loop-at-test.true)

pub bounds-lengths-l : goal.bounds-lengths-l
bounds-lengths-l c = omega (arith, walk_within c.requires.linked c.loop-at.invariant c.loop-at-test.true, c.requires.lengths)
