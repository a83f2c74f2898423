-- `listing::put_text` meets its contract: one byte more a turn. Assumes nothing.
use Rattle.listing.proofs.Appending.{grow_start, grow_more, grow_done, front_more, appends_as}
use native.Mathlib.Omega.{arith}
use lib.Seq.{take-length}
use lib.ListN.{take}
use mathlib.Core.Path.{refl}
use Rattle.listing.proofs.put_text.Goals as goal

pub loop-i-init : goal.loop-i-init
loop-i-init c = grow_start (λ k. take k c.args.text.now) _ _ _ refl

pub loop-i-preserved : goal.loop-i-preserved
loop-i-preserved c = grow_more c.loop-i.invariant c.loop-i-test.true c.put_byte-at.ensures (front_more _ _ c.loop-i-test.true) c.put_byte-at.auto.out

pub shape_of-out : goal.shape_of-out
shape_of-out c = c.loop-i.invariant.long

pub returns : goal.returns
returns c = appends_as (grow_done c.loop-i.invariant c.loop-i-test.false) (take-length _)
