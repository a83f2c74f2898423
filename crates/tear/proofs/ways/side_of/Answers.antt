-- `tear::ways::side_of` meets its contract: by the sign of one product. Assumes nothing.
use lib.Ieee.{of_bits}
use Rattle.tear.proofs.WayLaws.{side_far, side_near}
use borrow.Author.Rules.{rules}
use Rattle.tear.proofs.ways.side_of.Goals as goal

-- `tear::ways::side_of` meets its contract: by the sign of one product. Assumes nothing.
pub offsets-requires : goal.offsets-requires
offsets-requires c = c.requires

pub returns-then-dot : goal.returns-then-dot
unfolding of_bits
returns-then-dot c = side_far _ _ _ _ _ _ c.offsets.ensures c.dot.ensures c.if-dot.true

pub returns : goal.returns
unfolding of_bits
returns c = side_near _ _ _ _ _ _ c.offsets.ensures c.dot.ensures c.if-dot.false
