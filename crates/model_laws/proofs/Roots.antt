-- Which numbers have a root: what the call refuses, and with which number. Assumes nothing.
use mathlib.Core.Path.{◌≡◌, refl, ◌∙◌}
use mathlib.Core.Bool.{cond, ◌&&◌}
use lib.Dec.{T}
use lib.Ieee.{Float, binary32, fits}
use Rattle.std.specs.Prelude.{Option, None, Some}
use Rattle.float.specs.Root.{root_of, root_refusal}
use Rattle.float.specs.Ranges.{finite?, not_below0?}
use Rattle.float.proofs.Computed.{root_refused}
use Rattle.model.specs.Reads.{refusal_in, rooted, root_call}

number_is : (a : Option Float) → refusal_in (rooted a) ≡ root_refusal a
number_is (Some r) = refl
number_is None = refl

-- The call refuses, and with 4, exactly where x is a NaN, infinite or below zero. (Minus zero is not below zero.)
pub root_called : (x : Float) → T (fits binary32 x) → refusal_in (root_call x) ≡ cond (finite? x && not_below0? x) 0 4
root_called x h = number_is (root_of x) ∙ root_refused x h
