-- `work::notes::bits_of` meets its contract: a NaN has the pattern that the definition names. Assumes nothing.
use Rattle.float.proofs.Patterns.{is_no_nan}
use Rattle.work.proofs.Bits.{nan_bits_lem}
use Rattle.work.proofs.notes.bits_of.Goals as goal

-- `work::notes::bits_of` meets its contract: a NaN has the pattern that the definition names. Assumes nothing.
pub returns-then-x : goal.returns-then-x
returns-then-x c = nan_bits_lem c.args.x c.if-x.true

pub float_to_bits-result : goal.float_to_bits-result
float_to_bits-result c = is_no_nan c.args.x c.if-x.false
