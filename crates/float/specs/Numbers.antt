-- f32 numbers: the four operations, each rounded once, the numbers that docs/RULES.md and the source name, the inverse, and a share of a mass. Definitions only.
use Rattle.std.specs.Prelude.{ℕ, false, ◌&&◌, cond, pos, negsuc, Float}
use Rattle.std.specs.Float.{nan, inf, fin, binary32}
use Rattle.std.specs.Float.Ieee.{neg, add, sub, mul, div, lt, le, of_int}

abbrev pub plus : Float → Float → Float
plus x y = add binary32 x y

abbrev pub minus : Float → Float → Float
minus x y = sub binary32 x y

abbrev pub times : Float → Float → Float
times x y = mul binary32 x y

abbrev pub over : Float → Float → Float
over x y = div binary32 x y

-- 0, 1, 1/2, and a count as a number
abbrev pub zero32 : Float
zero32 = fin false 0 (pos 0)

abbrev pub one : Float
one = fin false 1 (pos 0)

abbrev pub half : Float
half = fin false 1 (negsuc 0)

abbrev pub count32 : ℕ → Float
count32 n = of_int binary32 (pos n)

-- 1e-20, 1e-12 and the largest f32, as the compiler rounds them
abbrev pub tiny : Float
tiny = fin false 1547425 (negsuc 86)

abbrev pub small : Float
small = fin false 2305843 (negsuc 60)

abbrev pub largest : Float
largest = fin false 16777215 (pos 104)

-- the size of x
unfoldable pub abs_of : Float → Float
abs_of nan = nan
abs_of (inf s) = inf false
abs_of (fin s m e) = fin false m e

-- the larger of two
unfoldable pub max_of : Float → Float → Float
max_of x y = cond (lt x y) y x

-- 0 from -1e-20 to 1e-20, else 1 divided by x
unfoldable pub inv_of : Float → Float
inv_of x = cond (le (neg tiny) x && le x tiny) zero32 (over one x)

-- (mass times weight) divided by total
abbrev pub share_of : Float → Float → Float → Float
share_of m w t = over (times m w) t
