-- `work::removal::note_listed` meets its contract: the loop over the list is `ListNoting` of proofs/Removals.antt. Assumes nothing.
use native.Mathlib.Omega.{arith}
use Rattle.columns.proofs.Cells.{col_0, col_1}
use lib.ListN.{length, get_or}
use Prim.Native.Nat.{◌/◌}
use Rattle.work.proofs.Removals.{listing_start, listing_more, listing_done}
use Rattle.work.proofs.removal.note_listed.Goals as goal

pub loop-i-init : goal.loop-i-init
loop-i-init c = listing_start _ _ _ _ _

pub overflow_cast-ends : goal.overflow_cast-ends
overflow_cast-ends c = let b = c.requires.below _ c.loop-i-test.true in omega (arith, col_0 0 (length c.args.ends.now / 4) c.args.ends.now (get_or c.args.list.now c.loop-i.i 0), c.requires.ends_in.first _ b)

pub overflow_cast-ends-in-loop-i : goal.overflow_cast-ends-in-loop-i
overflow_cast-ends-in-loop-i c = let b = c.requires.below _ c.loop-i-test.true in omega (arith, col_1 0 (length c.args.ends.now / 4) c.args.ends.now (get_or c.args.list.now c.loop-i.i 0), c.requires.ends_in.second _ b)

pub loop-i-preserved : goal.loop-i-preserved
loop-i-preserved c = listing_more _ _ _ _ _ _ _ c.loop-i.invariant c.loop-i-test.true c.requires.few _ c.note.ensures c.note.auto.log

pub shape_of-log : goal.shape_of-log
shape_of-log c = c.loop-i.invariant.long

pub returns : goal.returns
returns c = listing_done _ _ _ _ _ _ _ c.loop-i.invariant c.loop-i-test.false
