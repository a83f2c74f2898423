-- `reading_c::meshes::pieces` meets its contract: the question is asked. Assumes nothing.
use Rattle.replies.proofs.Saying.{replied_as}
use Rattle.reading_c.proofs.Answering.{pieces_is}
use Rattle.reading_c.proofs.meshes.pieces.Goals as goal

pub returns : goal.returns
returns c = replied_as _ _ _ _ _ (pieces_is _ _) c.image_asked.ensures
