-- `reading_c::unread::unread` meets its contract: the question is asked, and the number of its refusal returned. Assumes nothing.
use Rattle.reading_c.proofs.Answering.{unread_told}
use Rattle.reading_c.proofs.unread.unread.Goals as goal

pub returns : goal.returns
returns c = unread_told _ _ _ _ _ c.image_asked.ensures
