-- `listing::put_byte` meets its contract: a byte goes behind the text, or the text becomes too long. Assumes nothing.
use Rattle.listing.proofs.Appending.{byte_short, byte_full, byte_fits}
use Rattle.listing.proofs.put_byte.Goals as goal

pub returns-in_err-n : goal.returns-in_err-n
returns-in_err-n c = rw c.from_residual.ensures (byte_short _ _ _ c.in_err-n.was)

pub returns-then-n-out : goal.returns-then-n-out
returns-then-n-out c = byte_fits _ _ _ _ c.in_ok-n.was c.if-n-out.true

pub returns : goal.returns
returns c = byte_full _ _ _ _ c.in_ok-n.was c.if-n-out.false
