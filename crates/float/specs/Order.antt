-- The total order of IEEE 754 on the values that are no NaN: by size and sign as `<` has it, and minus zero before plus zero. Definitions only.
use Rattle.std.specs.Prelude.{Bool, true, false, ◌||◌, cond, Float, Option, None, Some}
use Rattle.std.specs.Float.{nan, inf, fin}
use Rattle.std.specs.Float.Ieee.{lt, is_nan}
use Rattle.std.specs.declared.cmp.Ordering.{Ordering}
use Rattle.std.specs.declared.cmp.Ordering.TheVariants.{Less, Equal, Greater}

-- true where x is below zero, or is minus zero
unfoldable pub sign_of : Float → Bool
sign_of nan = false
sign_of (inf s) = s
sign_of (fin s m e) = s

-- two values that are equal for `<`: only the zeros have two signs
abbrev pub by_sign : Bool → Bool → Ordering
by_sign true true = Equal
by_sign true false = Less
by_sign false true = Greater
by_sign false false = Equal

-- no order where one is a NaN
abbrev pub total_cmp_of : Float → Float → Option Ordering
total_cmp_of a b =
    cond (is_nan a || is_nan b) None
    (Some (cond (lt a b) Less
    (cond (lt b a) Greater
    (by_sign (sign_of a) (sign_of b)))))
