-- `blade::clamp` meets its contract: the library asks both bounds in turn, and 0 is not above 1. Assumes nothing.
use mathlib.Core.Path.{◌≡◌, refl, ◌∙◌}
use mathlib.Core.Bool.{Bool, true, false}
use lib.Ieee.{Float, lt, of_bits}
use Rattle.std.specs.Prelude.{cond}
use Rattle.std.specs.Float.{float_clamp}
use Rattle.float.specs.Numbers.{zero32, one}
use Rattle.blade.specs.Blade.{clamp_low, clamp_high}
use Rattle.blade.proofs.clamp.Goals as goal

in_turn : (t : Float) (low : Bool) → cond low zero32 (cond (lt one t) one t) ≡ clamp_high (cond low zero32 t)
unfolding lt
in_turn t true = refl
in_turn t false = refl

pub returns : goal.returns
unfolding of_bits
returns c = c.clamp.ensures.value ∙ in_turn c.args.t (lt c.args.t zero32)
