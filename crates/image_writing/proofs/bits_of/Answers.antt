-- `image_writing::bits_of` meets its contract: a NaN has the pattern that the definition names. Assumes nothing.
use native.Mathlib.Omega.{arith}
use mathlib.Core.Path.{◌≡◌, refl, sym, subst, ◌∙◌, ap}
use lib.Dec.{T}
use lib.Ieee.{binary32}
use lib.Ieee.Bits.{to_bits-lt}
use Rattle.float.proofs.Patterns.{is_no_nan}
use Rattle.image.proofs.Words.{nan_bits_lem}
use borrow.Author.Rules.{rules}
use Rattle.image_writing.proofs.bits_of.Goals as goal

-- `image_writing::bits_of` meets its contract: a NaN has the pattern that the definition names. Assumes nothing.
pub returns-then-x : goal.returns-then-x
returns-then-x c = nan_bits_lem c.args.x c.if-x.true

pub float_to_bits-result : goal.float_to_bits-result
float_to_bits-result c = is_no_nan c.args.x c.if-x.false

pub overflow_cast-result : goal.overflow_cast-result
overflow_cast-result c = omega (arith, to_bits-lt binary32 c.args.x (subst T (sym c.well_formed.0.1) tt))
