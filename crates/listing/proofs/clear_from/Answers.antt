-- `listing::clear_from` meets its contract: from a place within the bytes on every byte is 0. Assumes nothing.
use Rattle.listing.proofs.Appending.{clear_start_from, clear_more_from, clear_done_from}
use native.Mathlib.Omega.{arith}
use Rattle.listing.proofs.clear_from.Goals as goal

pub loop-i-init : goal.loop-i-init
loop-i-init c = clear_start_from _ _

pub loop-i-preserved : goal.loop-i-preserved
loop-i-preserved c = clear_more_from _ _ _ _ c.loop-i.invariant (omega arith)

pub shape_of-out : goal.shape_of-out
shape_of-out c = c.loop-i.invariant.long

pub returns : goal.returns
returns c = clear_done_from _ _ _ _ c.loop-i.invariant (omega arith)
