-- `listing::finish` meets its contract: what stands behind the text goes, and all of it where the text is too long. Assumes nothing.
use Rattle.listing.proofs.Appending.{finish_short, finish_whole}
use Rattle.listing.proofs.finish.Goals as goal

pub returns-in_default : goal.returns-in_default
returns-in_default c = finish_short _ _ _ c.in_default.is c.clear_from.ensures

pub returns : goal.returns
returns c = finish_whole _ _ _ _ c.in-Some.is c.clear_from-2.ensures
