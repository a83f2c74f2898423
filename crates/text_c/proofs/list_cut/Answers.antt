-- `text_c::list_cut` meets its contract: the listing is written, or there are too few bytes. Assumes nothing.
use Rattle.text_c.proofs.Texting.{text_replied}
use Rattle.text_c.proofs.list_cut.Goals as goal

pub returns : goal.returns
returns c = text_replied _ _ _ _ _ c.list_cut.ensures.wrote c.code_of.ensures
