-- `image::small::is_small` meets its contract: the four counts. Assumes nothing.
use Rattle.image.specs.Small.{small_image}
use Rattle.image.proofs.small.is_small.Goals as goal

pub returns : goal.returns
unfolding small_image
returns c = c.within.ensures
