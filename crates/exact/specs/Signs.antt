-- How the program decides edition 2: by the signs of offsets that are rounded as in edition 1. On whole coordinates they are exact (proofs/Exactly). Definitions only.
use Rattle.std.specs.Prelude.{Bool, not, ◌&&◌, ◌||◌, Float}
use Rattle.std.specs.Float.Ieee.{neg, lt}
use Rattle.lists.specs.Lists.{pick}
use Rattle.float.specs.Numbers.{plus, zero32}
use Rattle.blade.specs.declared.Point.{Point}
use Rattle.blade.specs.declared.Hit.{Hit}
use Rattle.blade.specs.declared.Hit.TheVariants.{Miss}
use Rattle.blade.specs.Blade.{offset_of}
use Rattle.exact.specs.Exact.{rounded_at}
use Rattle.exact.specs.declared.Sign.{Sign}
use Rattle.exact.specs.declared.Sign.TheVariants.{Left, On, Right}

-- neither both above 0 nor both below
abbrev pub across_in : Float → Float → Bool
across_in a b = not (lt zero32 a && lt zero32 b) && not (lt a zero32 && lt b zero32)

-- as `crosses`, by offsets
unfoldable pub crosses_by_signs : Point → Point → Point → Point → Bool
crosses_by_signs b0 b1 p q =
    let dp = offset_of b0 b1 p in
    let dq = offset_of b0 b1 q in
    across_in dp dq && (lt dp dq || lt dq dp) && across_in (offset_of p q b0) (offset_of p q b1)

-- as `exact_hit`
unfoldable pub hit_by_signs_of : Point → Point → Point → Point → Hit
hit_by_signs_of b0 b1 p q = pick (crosses_by_signs b0 b1 p q) (rounded_at b0 b1 p q) Miss

-- to which side an offset tells
unfoldable pub sign_in : Float → Sign
sign_in x = pick (lt zero32 x) Left (pick (lt x zero32) Right On)

-- to which side the sum of three offsets tells: the first two added and compared with the third's negative, as three might not fit an f32
unfoldable pub sign_of_sum_of : Float → Float → Float → Sign
sign_of_sum_of a b c = pick (lt (neg c) (plus a b)) Left (pick (lt (plus a b) (neg c)) Right On)
