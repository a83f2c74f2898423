-- `listing::write_refused` meets its contract: one line from nothing on, then the end. Assumes nothing.
use Rattle.listing.proofs.Appending.{wrote}
use Rattle.listing.specs.Listing.{refused_bytes}
use Rattle.listing.proofs.write_refused.Goals as goal

pub returns : goal.returns
unfolding refused_bytes
returns c = wrote c.put_line-at.ensures c.finish.ensures c.put_line-at.auto.out
