-- Edition 2 of the cut of triangles (docs/RULES.md, R25), for whole coordinates: what a crossing is and what a side is, in whole numbers. Definitions only.
use Rattle.std.specs.Prelude.{Bool, true, false, not, ◌&&◌, ◌||◌, List, [], ◌∷◌, ℤ, pos, ◌+ℤ◌, int_lt, Float}
use Rattle.std.specs.Float.{fin, binary32}
use Rattle.std.specs.Float.Ieee.{le, eq, of_int, to_signed}
use Rattle.lists.specs.Lists.{pick}
use Rattle.float.specs.Numbers.{minus, over, abs_of}
use Rattle.blade.specs.declared.Point.{Point}
use Rattle.blade.specs.declared.Hit.{Hit}
use Rattle.blade.specs.declared.Hit.TheVariants.{Miss, Hit as HitAt}
use Rattle.blade.specs.Points.{minus_of}
use Rattle.blade.specs.Blade.{offset_of, clamp_low, clamp_high, hit_point}
use Rattle.blade.specs.Whole.{side_of}
use Rattle.exact.specs.declared.Sign.{Sign}
use Rattle.exact.specs.declared.Sign.TheVariants.{Left, On, Right}

-- ---- whole numbers

-- the whole number that a float is, its fraction cut off. (Either zero is 0.)
unfoldable pub whole_of : Float → ℤ
whole_of x = to_signed 63 x

-- a whole number from -1,024 to 1,024: of magnitude at most 2 ^ 10, and equal to its whole part
unfoldable pub whole? : Float → Bool
whole? x = le (abs_of x) (fin false 1 (pos 10)) && eq (of_int binary32 (whole_of x)) x

-- both coordinates are
abbrev pub whole_point_of : Point → Bool
whole_point_of p = whole? p.x && whole? p.y

-- the offset of p from the line through a and b, in whole numbers: above 0 to the left, 0 on the line
unfoldable pub side_by : Point → Point → Point → ℤ
side_by a b p = side_of (whole_of a.x) (whole_of a.y) (whole_of b.x) (whole_of b.y) (whole_of p.x) (whole_of p.y)

-- ---- crossings

-- neither both to the left nor both to the right
abbrev pub across : ℤ → ℤ → Bool
across a b = not (int_lt (pos 0) a && int_lt (pos 0) b) && not (int_lt a (pos 0) && int_lt b (pos 0))

-- not equal
abbrev pub differ : ℤ → ℤ → Bool
differ a b = int_lt a b || int_lt b a

-- p and q lie on or across the blade's line, not equally far from it, and the blade's ends lie on or across theirs: the exact hit point is on the blade, ends included (crosses-meant)
unfoldable pub crosses : Point → Point → Point → Point → Bool
crosses b0 b1 p q =
    across (side_by b0 b1 p) (side_by b0 b1 q) && differ (side_by b0 b1 p) (side_by b0 b1 q) && across (side_by p q b0) (side_by p q b1)

-- what a hit carries: the fraction and the point as edition 1 rounds them
abbrev pub rounded_at : Point → Point → Point → Point → Hit
rounded_at b0 b1 p q =
    let dp = offset_of b0 b1 p in
    let t = clamp_high (clamp_low (over dp (minus dp (offset_of b0 b1 q)))) in
    HitAt t (hit_point p (minus_of q p) t)

-- the blade test of edition 2
unfoldable pub exact_hit : Point → Point → Point → Point → Hit
exact_hit b0 b1 p q = pick (crosses b0 b1 p q) (rounded_at b0 b1 p q) Miss

-- ---- sides

-- to which side of the line an offset tells
unfoldable pub sign_of : ℤ → Sign
sign_of d = pick (int_lt (pos 0) d) Left (pick (int_lt d (pos 0)) Right On)

-- the sum of offsets: of a triangle's corners, three times its centroid's offset
unfoldable pub total : List ℤ → ℤ
total [] = pos 0
total (a ∷ l) = a +ℤ total l

-- the kept side: the particle's own; if it is on the line, that of the first fan element off the line; on the line if there is none
unfoldable pub kept_by_of : Sign → List Sign → Sign
kept_by_of own [] = own
kept_by_of Left (m ∷ ms) = Left
kept_by_of On (m ∷ ms) = kept_by_of m ms
kept_by_of Right (m ∷ ms) = Right

-- one strictly to the left and one strictly to the right
abbrev pub opposite : Sign → Sign → Bool
opposite Left Left = false
opposite Left On = false
opposite Left Right = true
opposite On b = false
opposite Right Left = true
opposite Right On = false
opposite Right Right = false
