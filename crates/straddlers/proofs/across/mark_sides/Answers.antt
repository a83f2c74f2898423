-- `straddlers::across::mark_sides` meets its contract: the loop over the entries is `Marking` of proofs/PieceMasks.antt. Assumes nothing.
use Rattle.straddlers.proofs.PieceMasks.{sides_read, sides_marked, side_told}
use borrow.Author.Rules.{rules}
use Rattle.work.proofs.Removals.{Marking, marking_start, marking_step}
use Rattle.straddlers.specs.Straddling.{side_crosses}
use Prim.Native.Nat.{◌-◌}
use native.Mathlib.Omega.{arith}
use Rattle.straddlers.proofs.across.mark_sides.Goals as goal

pub loop-i-init : goal.loop-i-init
loop-i-init c = marking_start _ _ _

pub apart-requires : goal.apart-requires
apart-requires c = sides_read _ _ _ _ _ c.requires.sides_in c.loop-i-test.true c.requires.used_long

pub loop-i-preserved : goal.loop-i-preserved
loop-i-preserved c = marking_step _ _ _ _ _ _ c.loop-i.invariant c.loop-i-test.true c.requires.mask_long (side_told _ _ c.args.outline.now c.loop-i.i _ c.apart.result c.apart.ensures c.mark.ensures)

pub shape_of-mask : goal.shape_of-mask
shape_of-mask c = c.loop-i.invariant.long

pub returns : goal.returns
returns c = sides_marked _ _ _ _ _ _ _ c.loop-i.invariant c.loop-i-test.false
