-- `text_c::layout` meets its contract. Assumes nothing.
use mathlib.Core.Path.{refl}
use Rattle.text_c.specs.Texts.{layout_number}
use Rattle.text_c.proofs.layout.Goals as goal

-- `text_c::layout` meets its contract. Assumes nothing.
pub returns : goal.returns
unfolding layout_number
returns c = refl
