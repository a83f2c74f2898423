-- `listing::put_replaced` meets its contract: the one line, or nothing. Assumes nothing.
use Rattle.listing.proofs.Appending.{replaced_none, replaced_line_lem}
use Rattle.listing.proofs.put_replaced.Goals as goal

pub returns-then-replaced : goal.returns-then-replaced
returns-then-replaced c = replaced_line_lem _ c.if-replaced.true c.put_line.ensures

pub returns : goal.returns
returns c = replaced_none _ _ _ c.if-replaced.false
