-- Bytes as bits: the bits of the bytes one after the other, the most significant bit of each byte first; and a field of them. Definitions only.
use Rattle.std.specs.Prelude.{ℕ, zero, suc, ◌+◌, ◌*◌, ◌/◌, ◌%◌, ◌^◌, List, [], ◌∷◌, ◌++◌, length, take, drop}

-- the w low bits of n, the most significant first
unfoldable pub bits : ℕ → ℕ → List ℕ
bits zero n = []
bits (suc w) n = n / 2 ^ w % 2 ∷ bits w n

-- the bits of bytes
unfoldable pub bits_of : List ℕ → List ℕ
bits_of [] = []
bits_of (b ∷ bs) = bits 8 b ++ bits_of bs

-- the number that bits stand for, the most significant first
unfoldable pub num : List ℕ → ℕ
num [] = 0
num (b ∷ bs) = b * 2 ^ length bs + num bs

-- the field of w bits that starts at bit `at`
abbrev pub field_at : List ℕ → ℕ → ℕ → ℕ
field_at l at w = num (take w (drop at l))
