-- `float::range::volume_in_range` meets its contract. Assumes nothing.
use lib.IntN.{pos}
use lib.Ieee.{neg, of_bits}
use Rattle.float.specs.Ranges.{volume?}
use Rattle.float.proofs.Limits.{not_above, above}
use Rattle.float.proofs.range.volume_in_range.Goals as goal

-- `float::range::volume_in_range` meets its contract. Assumes nothing.
pub returns-then-x : goal.returns-then-x
unfolding of_bits neg volume?
returns-then-x c = not_above c.args.x 1 (pos 22) c.if-x.true

pub returns-else-x : goal.returns-else-x
unfolding of_bits neg volume?
returns-else-x c = above c.args.x 1 (pos 22) c.if-x.false
