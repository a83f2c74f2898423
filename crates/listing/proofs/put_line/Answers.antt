-- `listing::put_line` meets its contract: a word, one number more a turn, and the end of the line. Assumes nothing.
use Rattle.listing.proofs.Appending.{grow_start, grow_more, grow_done, appends_then, spaced_more, line_written}
use Rattle.listing.specs.Listing.{spaced}
use Rattle.lists.specs.Lists.{each}
use native.Mathlib.Omega.{arith}
use lib.ListN.{take}
use mathlib.Core.Path.{refl, ◌∙◌}
use Rattle.listing.proofs.put_line.Goals as goal

pub loop-i-init : goal.loop-i-init
unfolding each
loop-i-init c = grow_start (λ k. each spaced (take k c.args.numbers.now)) _ _ _ refl

pub loop-i-preserved : goal.loop-i-preserved
loop-i-preserved c = grow_more c.loop-i.invariant c.loop-i-test.true (appends_then c.put_byte-space.ensures c.put_number-at.ensures) (spaced_more _ _ c.loop-i-test.true) (c.put_number-at.auto.out ∙ c.put_byte-space.auto.out)

pub shape_of-out : goal.shape_of-out
shape_of-out c = c.put_byte.auto.out ∙ c.loop-i.invariant.long ∙ c.put_text-at.auto.out

pub returns : goal.returns
returns c = line_written _ c.put_text-at.ensures (grow_done c.loop-i.invariant c.loop-i-test.false) c.put_byte.ensures
