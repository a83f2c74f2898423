-- The bits of a number. Assumes nothing.
use mathlib.Core.Path.{◌≡◌, refl, sym, subst}
use mathlib.Core.Bool.{true}
use lib.Dec.{T}
use lib.Ieee.{Float, binary32, ne, to_bits}
use lib.Ieee.Compare.{differs_from_itself}

-- a number that differs from itself has the pattern that the definition names
pub nan_bits_lem : (x : Float) → ne x x ≡ true → 2143289344 ≡ to_bits binary32 x
unfolding to_bits
nan_bits_lem x h = subst (λ (z : Float). 2143289344 ≡ to_bits binary32 z) (sym (differs_from_itself x (subst T (sym h) tt))) refl
