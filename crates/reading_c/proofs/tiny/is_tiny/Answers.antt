-- `reading_c::tiny::is_tiny` meets its contract: the four counts. Assumes nothing.
use Rattle.reading_c.specs.Tiny.{tiny_image}
use Rattle.reading_c.proofs.tiny.is_tiny.Goals as goal

pub returns : goal.returns
unfolding tiny_image
returns c = c.within.ensures
