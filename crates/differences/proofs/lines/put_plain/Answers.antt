-- `differences::lines::put_plain` meets its contract: a space, then the number. Assumes nothing.
use Rattle.listing.proofs.Appending.{appends_then}
use borrow.Author.Rules.{rules}
use Rattle.differences.proofs.lines.put_plain.Goals as goal

pub returns : goal.returns
returns c = appends_then c.put_byte-space.ensures c.put_number.ensures
