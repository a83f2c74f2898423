-- `image::number_of` meets its contract: the bits that are kept make no NaN pattern. Assumes nothing.
use mathlib.Core.Path.{sym, subst}
use mathlib.Core.Bool.{Bool, not}
use lib.Dec.{T}
use Rattle.image.proofs.Words.{kept_bits}
use Rattle.image.proofs.number_of.Goals as goal

pub float_from_bits-result : goal.float_from_bits-result
float_from_bits-result c = subst (λ (z : Bool). T (not z)) (sym (kept_bits _ _ c.requires c.kept.ensures).0) tt

pub returns : goal.returns
returns c = (kept_bits _ _ c.requires c.kept.ensures).1
