-- The blade test, each operation rounded once to an f32, in the order of the source. Definitions only.
use Rattle.std.specs.Prelude.{◌&&◌, ◌||◌, cond, Float}
use Rattle.std.specs.Float.Ieee.{neg, lt, le, eq}
use Rattle.float.specs.Numbers.{minus, times, over, zero32, one}
use Rattle.blade.specs.declared.Point.{Point}
use Rattle.blade.specs.declared.Hit.{Hit}
use Rattle.blade.specs.declared.Hit.TheVariants.{Miss, Hit as HitAt}
use Rattle.blade.specs.Points.{plus_of, minus_of, times_of, dot_of}

-- the blade's direction turned a quarter to the left
abbrev pub normal_of : Point → Point
normal_of d = record { x = neg d.y; y = d.x }

-- how far v is from the line through b0 along d, times d's length: above 0 to the left
abbrev pub offset_along : Point → Point → Point → Float
offset_along d b0 v = dot_of (normal_of d) (minus_of v b0)

-- the offset of v from the blade from b0 to b1
abbrev pub offset_of : Point → Point → Point → Float
offset_of b0 b1 v = offset_along (minus_of b1 b0) b0 v

-- t brought into the range from 0 to 1. A NaN stays, and so does minus zero
abbrev pub clamp_low : Float → Float
clamp_low t = cond (lt t zero32) zero32 t

abbrev pub clamp_high : Float → Float
clamp_high t = cond (lt one t) one t

-- the hit point at fraction t of the edge from p along w, p + w * t
abbrev pub hit_point : Point → Point → Float → Point
hit_point p w t = plus_of p (times_of w t)

-- the fraction t is a hit where the hit point lies between the blade's ends, both included; the hit carries that point
abbrev pub hit_at_of : Point → Point → Point → Point → Float → Hit
hit_at_of d b0 p w t =
    let s = dot_of (minus_of (hit_point p w t) b0) d in
    cond (le zero32 s && le s (dot_of d d)) (HitAt t (hit_point p w t)) Miss

-- by the offsets dp of p and dq of q: a miss where both are on one side, or equal
abbrev pub cross_at_of : Point → Point → Point → Point → Float → Float → Hit
cross_at_of d b0 p w dp dq =
    cond (lt zero32 (times dp dq) || eq dp dq) Miss
    (hit_at_of d b0 p w (clamp_high (clamp_low (over dp (minus dp dq)))))

-- the blade from b0 to b1, and the edge from p to q
unfoldable pub blade_hit_of : Point → Point → Point → Point → Hit
blade_hit_of b0 b1 p q =
    let d = minus_of b1 b0 in
    cross_at_of d b0 p (minus_of q p) (offset_along d b0 p) (offset_along d b0 q)
