-- `float::abs::abs` meets its contract: a number with no sign is its size. Assumes nothing.
use mathlib.Core.Path.{◌≡◌, refl, ◌∙◌}
use mathlib.Core.Bool.{false}
use lib.Ieee.{Float, nan, inf, fin}
use Rattle.std.specs.Float.{float_with_sign}
use Rattle.float.specs.Numbers.{abs_of}
use Rattle.float.proofs.abs.abs.Goals as goal

no_sign : (x : Float) → float_with_sign false x ≡ abs_of x
unfolding float_with_sign abs_of
no_sign nan = refl
no_sign (inf s) = refl
no_sign (fin s m e) = refl

pub returns : goal.returns
returns c = c.abs.ensures.value ∙ no_sign c.args.x
