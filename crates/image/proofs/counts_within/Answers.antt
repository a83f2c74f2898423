-- `image::counts_within` meets its contract: the four counts. Assumes nothing.
use Rattle.image.specs.Image.{counts_within_of}
use Rattle.image.proofs.counts_within.Goals as goal

pub returns : goal.returns
unfolding counts_within_of
returns c = cc
