-- The ranges of docs/RULES.md, R2.10: every number is finite, of magnitude at most 1,048,576, a rest volume's at most 4,194,304; a rest length is at least 0. Definitions only.
use Rattle.std.specs.Prelude.{Bool, true, false, pos, Float}
use Rattle.std.specs.Float.{nan, inf, fin}
use Rattle.std.specs.Float.Ieee.{le}
use Rattle.float.specs.Numbers.{zero32, abs_of}

-- neither a NaN nor an infinity
unfoldable pub finite? : Float → Bool
finite? nan = false
finite? (inf s) = false
finite? (fin s m e) = true

-- finite, and of magnitude at most 1,048,576, which is 2 ^ 20. (A NaN is not at most anything.)
unfoldable pub number? : Float → Bool
number? x = le (abs_of x) (fin false 1 (pos 20))

-- finite, and of magnitude at most 4,194,304, which is 2 ^ 22
unfoldable pub volume? : Float → Bool
volume? x = le (abs_of x) (fin false 1 (pos 22))

-- at least 0. (Minus zero is at least 0.)
unfoldable pub not_below0? : Float → Bool
not_below0? x = le zero32 x
