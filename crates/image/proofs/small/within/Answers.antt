-- `image::small::within` meets its contract: the four counts. Assumes nothing.
use Rattle.image.specs.Small.{counts_in}
use Rattle.image.proofs.small.within.Goals as goal

pub returns : goal.returns
unfolding counts_in
returns c = cc
