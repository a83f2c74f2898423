-- `image::small::is_middling` meets its contract: the four counts. Assumes nothing.
use Rattle.image.specs.Small.{middling_image}
use Rattle.image.proofs.small.is_middling.Goals as goal

pub returns : goal.returns
unfolding middling_image
returns c = c.within.ensures
