-- `reading_c::meshes::rest_measure` meets its contract: the question is asked. Assumes nothing.
use Rattle.replies.proofs.Saying.{replied_as}
use Rattle.reading_c.proofs.Answering.{measure_is}
use Rattle.reading_c.proofs.meshes.rest_measure.Goals as goal

pub returns : goal.returns
returns c = replied_as _ _ _ _ _ (measure_is _ _) c.image_asked.ensures
