-- Fields one after the other, and lists of rows of fields: what bits hold and how they are written. Widths and places are arguments. Definitions only.
use Rattle.std.specs.Prelude.{ℕ, zero, suc, ◌+◌, ◌^◌, ◌<◌, List, [], ◌∷◌, ◌++◌, map, take, drop, get_or}
use Rattle.bits.specs.Bits.{bits, num, field_at}

-- the widths' sum
unfoldable pub total : List ℕ → ℕ
total [] = 0
total (w ∷ ws) = w + total ws

-- a row: fields of widths ws from the front of the bits
unfoldable pub unpack : List ℕ → List ℕ → List ℕ
unpack [] l = []
unpack (w ∷ ws) l = num (take w l) ∷ unpack ws (drop w l)

-- the bits of a row
unfoldable pub pack : List ℕ → List ℕ → List ℕ
pack [] vs = []
pack (w ∷ ws) vs = bits w (get_or vs 0 0) ++ pack ws (drop 1 vs)

-- n rows from the front of the bits
unfoldable pub read_rows : List ℕ → ℕ → List ℕ → List (List ℕ)
read_rows ws zero l = []
read_rows ws (suc n) l = unpack ws l ∷ read_rows ws n (drop (total ws) l)

-- the bits of rows
unfoldable pub write_rows : List ℕ → List (List ℕ) → List ℕ
write_rows ws [] = []
write_rows ws (r ∷ rs) = pack ws r ++ write_rows ws rs

-- a row has a number for each width, and the width holds it
unfoldable pub Fit : List ℕ → List ℕ → Type 0
Fit [] [] = Unit
Fit [] (v ∷ vs) = ⊥
Fit (w ∷ ws) [] = ⊥
Fit (w ∷ ws) (v ∷ vs) = (v < 2 ^ w) × Fit ws vs

-- so has every row
unfoldable pub FitAll : List ℕ → List (List ℕ) → Type 0
FitAll ws [] = Unit
FitAll ws (r ∷ rs) = Fit ws r × FitAll ws rs

-- column k of rows
abbrev pub col : ℕ → List (List ℕ) → List ℕ
col k rows = map (λ (r : List ℕ). get_or r k 0) rows

-- n fields of w bits, the first at bit `at`, each `step` bits after the one before
unfoldable pub column_at : List ℕ → ℕ → ℕ → ℕ → ℕ → List ℕ
column_at l at step w zero = []
column_at l at step w (suc n) = field_at l at w ∷ column_at l (at + step) step w n

-- n rows from columns, from place i on
unfoldable pub rows_of : List (List ℕ) → ℕ → ℕ → List (List ℕ)
rows_of cols i zero = []
rows_of cols i (suc n) = map (λ (c : List ℕ). get_or c i 0) cols ∷ rows_of cols (i + 1) n
