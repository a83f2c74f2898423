-- `image_writing::clear_bytes` meets its contract: every byte is 0. Assumes nothing.
use Rattle.lists.specs.Lists.{each}
use Rattle.image.specs.Words.{written}
use Rattle.image_writing.proofs.clear_bytes.Goals as goal

pub returns : goal.returns
unfolding written each
returns c = c.clear.ensures
