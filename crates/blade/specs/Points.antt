-- Points: each operation rounds once, coordinate by coordinate, in the order of the source. Definitions only.
use Rattle.std.specs.Prelude.{List, length, Float, Option, None, Some}
use Rattle.std.specs.Float.{nan}
use Rattle.lists.specs.Lists.{fold}
use Rattle.float.specs.Numbers.{plus, minus, times, over, zero32, one, count32}
use Rattle.float.specs.Root.{root_of}
use Rattle.blade.specs.declared.Point.{Point}

abbrev pub origin : Point
origin = record { x = zero32; y = zero32 }

abbrev pub plus_of : Point → Point → Point
plus_of a b = record { x = plus a.x b.x; y = plus a.y b.y }

abbrev pub minus_of : Point → Point → Point
minus_of a b = record { x = minus a.x b.x; y = minus a.y b.y }

abbrev pub times_of : Point → Float → Point
times_of p k = record { x = times p.x k; y = times p.y k }

abbrev pub over_of : Point → Float → Point
over_of p k = record { x = over p.x k; y = over p.y k }

-- the x product plus the y product
abbrev pub dot_of : Point → Point → Float
dot_of a b = plus (times a.x b.x) (times a.y b.y)

-- vector sums start at 0
unfoldable pub sum_of : List Point → Point
sum_of l = fold plus_of origin l

-- the sum of the points divided by their number
unfoldable pub centroid_of : List Point → Point
centroid_of l = over_of (sum_of l) (count32 (length l))

-- p times (1 - t), plus q times t
unfoldable pub lerp_of : Point → Point → Float → Point
lerp_of p q t = plus_of (times_of p (minus one t)) (times_of q t)

-- the rounded root of the dot product with itself. (A NaN where that is not finite, which no accepted mesh reaches.)
abbrev pub root_value : Option Float → Float
root_value (Some x) = x
root_value None = nan

unfoldable pub length_of : Point → Float
length_of p = root_value (root_of (dot_of p p))
