-- `image_elements::number_at` meets its contract. Assumes nothing.
use native.Mathlib.Omega.{arith}
use mathlib.Core.Path.{◌∙◌, ap}
use Rattle.image.specs.Words.{number_of}
use Rattle.image_elements.proofs.number_at.Goals as goal

pub number_of-requires : goal.number_of-requires
number_of-requires c = c.word_at.ensures.1

pub returns : goal.returns
returns c = c.number_of.ensures ∙ ap number_of c.word_at.ensures.0
