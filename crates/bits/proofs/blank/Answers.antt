-- `bits::blank` meets its contract: bytes that are all 0 have no bit. Assumes nothing.
use lib.ListN.{length}
use Rattle.bits.proofs.RowLaws.{bits_of_zeros}
use Rattle.bits.proofs.blank.Goals as goal

pub returns : goal.returns
returns c = rw (c.fill.ensures.after (λ y e. e)) (bits_of_zeros (length c.args.s.now))
