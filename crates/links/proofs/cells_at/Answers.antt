-- `links::cells_at` meets its contract: the invariant is the cells found (`Walking` of proofs/Walked.antt). Assumes nothing.
use Rattle.links.proofs.Walked.{walking_start, walking_holds, walking_room, walking_within, walking_few, walking_more, walking_done}
use native.Mathlib.Omega.{arith}
use Rattle.links.proofs.cells_at.Goals as goal

pub first_at-at-requires : goal.first_at-at-requires
first_at-at-requires c = let P = c.requires in omega (arith, P.here, P.room.table)

pub loop-at-init : goal.loop-at-init
loop-at-init c = walking_start _ _ _ _ _ _ (c.first_at-at.ensures.is _ _ _ _ _ c.requires.linked c.requires.here)

pub overflow_sub-i : goal.overflow_sub-i
overflow_sub-i c = c.loop-at-test.true

pub offset_bounds-list-r : goal.offset_bounds-list-r
offset_bounds-list-r c = let h = walking_room _ _ _ _ _ _ _ _ c.loop-at.invariant c.loop-at-test.true in omega (arith, h, c.loop-at.invariant.long, c.requires.fits)

pub bounds-list-r : goal.bounds-list-r
bounds-list-r c = let h = walking_room _ _ _ _ _ _ _ _ c.loop-at.invariant c.loop-at-test.true in omega (arith, h, c.loop-at.invariant.long, c.requires.fits)

pub next_at-at-requires : goal.next_at-at-requires
next_at-at-requires c = let h = walking_within _ _ _ _ _ _ _ _ c.loop-at.invariant c.loop-at-test.true in let P = c.requires in record { row = record { here = omega (arith, h, P.room.rows); columns = P.room.columns; holding = walking_holds _ _ _ _ _ _ _ _ c.loop-at.invariant c.loop-at-test.true }; linked = omega (arith, h, P.room.cells); table = P.room.table }

pub overflow_add-r : goal.overflow_add-r
overflow_add-r c = let h = walking_room _ _ _ _ _ _ _ _ c.loop-at.invariant c.loop-at-test.true in omega (arith, h, c.requires.room.small)

pub loop-at-smaller : goal.loop-at-smaller
loop-at-smaller c = let h = walking_room _ _ _ _ _ _ _ _ c.loop-at.invariant c.loop-at-test.true in omega (arith, h)

pub loop-at-preserved : goal.loop-at-preserved
loop-at-preserved c = walking_more _ _ _ _ _ _ _ _ c.loop-at.invariant c.loop-at-test.true _ (c.next_at-at.ensures.is _ c.requires.linked) (omega (arith, c.loop-at.invariant.long, c.requires.fits))

pub shape_of-list : goal.shape_of-list
shape_of-list c = c.loop-at.invariant.long

pub returns : goal.returns
returns c = record { are = walking_done _ _ _ _ _ _ _ _ c.loop-at.invariant (omega arith); few = walking_few _ _ _ _ _ _ _ _ c.loop-at.invariant }
