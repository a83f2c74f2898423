-- `text_c::difference` meets its contract: the differences are written, or there are too few bytes. Assumes nothing.
use Rattle.text_c.proofs.Texting.{text_replied}
use Rattle.text_c.proofs.difference.Goals as goal

pub returns : goal.returns
returns c = text_replied _ _ _ _ _ c.list_differences.ensures.wrote c.code_of.ensures
