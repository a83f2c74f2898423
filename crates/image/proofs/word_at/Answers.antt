-- `image::word_at` meets its contract: four bytes are one word. Assumes nothing.
use native.Mathlib.Omega.{arith}
use Rattle.image.specs.Words.{word_at_of}
use Rattle.image.proofs.word_at.Goals as goal

pub returns : goal.returns
unfolding word_at_of
returns c = (cc, omega arith)
