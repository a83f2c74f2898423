-- Laws of rows: reading and writing undo each other; a column of rows read is a run of fields.
use Prim.Native.Nat.{ℕ, zero, suc, ◌+◌, ◌-◌, ◌*◌, ◌^◌, ◌<◌, ◌≤◌}
use mathlib.Core.Path.{◌≡◌, refl, ap, sym, ◌∙◌}
use mathlib.Core.List.{List, [], ◌∷◌, ◌++◌, append_assoc, append-nil, map}
use mathlib.Core.Logic.{⊎_elim}
use native.Mathlib.Omega.{arith}
use native.Mathlib.Nat.{mod-eq_of_lt, suc-mul, zero-mul}
use native.Mathlib.Numerals.{add-one}
use lib.ListN.{length, take, drop, get_or, set, replicate, replicate-append-replicate, length-append, length-drop, length-take, get_or-eq_default}
use lib.Seq.{get_or-take, get_or-drop, take-add, drop-drop, take_at, drop_at, length-take-le, sets, take-suc-set}
use Rattle.bits.specs.Bits.{bits, bits_of, num, field_at}
use Rattle.bits.specs.Rows.{total, unpack, pack, read_rows, write_rows, Fit, FitAll, col, column_at, rows_of}
use Rattle.bits.proofs.Laws.{below?, length_bits, length_bits_of, get_d_bits_of, num_bits, num_lt, bits_num, bits_zero, sets_sets}

-- every place holds a 0 or a 1
abbrev pub AllBits : List ℕ → Type 0
AllBits l = (i : ℕ) → get_or l i 0 < 2

pub bits_bits_of : (bs : List ℕ) → AllBits (bits_of bs)
bits_bits_of bs i =
    ⊎_elim
    (λ (h : i < 8 * length bs). rw (get_d_bits_of bs i h) (omega arith))
    (λ (h : 8 * length bs ≤ i). let z : get_or (bits_of bs) i 0 ≡ 0 = get_or-eq_default (bits_of bs) 0 (omega (arith, length_bits_of bs)) in omega arith)
    (below? i (8 * length bs))

pub bits_append : (a b : List ℕ) → AllBits a → AllBits b → AllBits (a ++ b)
bits_append [] b f g i = g i
bits_append (x ∷ a) b f g zero = f 0
bits_append (x ∷ a) b f g (suc i) = bits_append a b (λ j. f (suc j)) g i

pub bits_zeros : (n : ℕ) → AllBits (replicate n 0)
bits_zeros zero i = omega arith
bits_zeros (suc n) zero = omega arith
bits_zeros (suc n) (suc i) = bits_zeros n i

-- bits that stand for 0
pub zeros_of : (l : List ℕ) → AllBits l → num l ≡ 0 → l ≡ replicate (length l) 0
zeros_of l h e = sym (bits_num l h) ∙ (ap (bits (length l)) e ∙ bits_zero (length l))

pub bits_drop : (n : ℕ) (l : List ℕ) → AllBits l → AllBits (drop n l)
bits_drop n l h i = rw (get_or-drop n l i 0) (h (n + i))

pub bits_take : (n : ℕ) (l : List ℕ) → AllBits l → AllBits (take n l)
bits_take n l h i =
    ⊎_elim
    (λ (g : i < n). rw (get_or-take n l i 0 g) (h i))
    (λ (g : n ≤ i). let z : get_or (take n l) i 0 ≡ 0 = get_or-eq_default (take n l) 0 (omega (arith, length-take n l)) in omega arith)
    (below? i n)

pub field_lt : (l : List ℕ) (at w : ℕ) → AllBits l → at + w ≤ length l → field_at l at w < 2 ^ w
field_lt l at w h r =
    let e : length (take w (drop at l)) ≡ w = length-take-le w (drop at l) (omega (arith, length-drop at l)) in
    rw e at (num_lt (take w (drop at l)) (bits_take w (drop at l) (bits_drop at l h)))

pub pack_unpack : (ws l : List ℕ) → AllBits l → total ws ≤ length l → pack ws (unpack ws l) ≡ take (total ws) l
unfolding total pack unpack
pack_unpack [] l h r = refl
pack_unpack (w ∷ ws) l h r =
    let e : length (take w l) ≡ w = length-take-le w l (omega arith) in
    let b : bits w (num (take w l)) ≡ take w l = rw e at (bits_num (take w l) (bits_take w l h)) in
    rw (take-add w (total ws) l, b, pack_unpack ws (drop w l) (bits_drop w l h) (omega (arith, length-drop w l)))

pub length_pack : (ws vs : List ℕ) → length (pack ws vs) ≡ total ws
unfolding total pack
length_pack [] vs = refl
length_pack (w ∷ ws) vs = omega (arith, length-append (bits w (get_or vs 0 0)) (pack ws (drop 1 vs)), length_bits w (get_or vs 0 0), length_pack ws (drop 1 vs))

pub unpack_pack : (ws vs rest : List ℕ) → Fit ws vs → unpack ws (pack ws vs ++ rest) ≡ vs
unfolding pack unpack Fit
unpack_pack [] [] rest f = refl
unpack_pack [] (v ∷ vs) rest f = absurd f
unpack_pack (w ∷ ws) [] rest f = absurd f
unpack_pack (w ∷ ws) (v ∷ vs) rest f =
    let t = take_at (bits w v) (pack ws vs ++ rest) w (length_bits w v) in
    let d = drop_at (bits w v) (pack ws vs ++ rest) w (length_bits w v) in
    rw (append_assoc, t, d, num_bits w v, mod-eq_of_lt f.0, unpack_pack ws vs rest f.1)

pub fit_unpack : (ws l : List ℕ) → AllBits l → total ws ≤ length l → Fit ws (unpack ws l)
unfolding total unpack Fit
fit_unpack [] l h r = tt
fit_unpack (w ∷ ws) l h r = (field_lt l 0 w h (omega arith), fit_unpack ws (drop w l) (bits_drop w l h) (omega (arith, length-drop w l)))

pub length_write_rows : (ws : List ℕ) (rs : List (List ℕ)) → length (write_rows ws rs) ≡ length rs * total ws
unfolding write_rows
length_write_rows ws [] = omega arith
length_write_rows ws (r ∷ rs) = omega (arith, length-append (pack ws r) (write_rows ws rs), length_pack ws r, length_write_rows ws rs, suc-mul (length rs) (total ws))

pub write_read : (ws : List ℕ) (n : ℕ) (l : List ℕ) → AllBits l → n * total ws ≤ length l → write_rows ws (read_rows ws n l) ≡ take (n * total ws) l
unfolding write_rows read_rows
write_read ws zero l h r = rw zero-mul
write_read ws (suc n) l h r =
    let e : suc n * total ws ≡ total ws + n * total ws = omega (arith, suc-mul n (total ws)) in
    let b : n * total ws ≤ length (drop (total ws) l) = omega (arith, e, length-drop (total ws) l) in
    rw (e, take-add (total ws) (n * total ws) l, pack_unpack ws l h (omega (arith, e)), write_read ws n (drop (total ws) l) (bits_drop (total ws) l h) b)

pub read_write : (ws : List ℕ) (rs : List (List ℕ)) (rest : List ℕ) → FitAll ws rs → read_rows ws (length rs) (write_rows ws rs ++ rest) ≡ rs
unfolding write_rows read_rows FitAll
read_write ws [] rest f = refl
read_write ws (r ∷ rs) rest f =
    let d = drop_at (pack ws r) (write_rows ws rs ++ rest) (total ws) (length_pack ws r) in
    rw (append_assoc, unpack_pack ws r (write_rows ws rs ++ rest) f.0, d, read_write ws rs rest f.1)

pub get_d_unpack : (ws : List ℕ) (l : List ℕ) (k : ℕ) → k < length ws → get_or (unpack ws l) k 0 ≡ field_at l (total (take k ws)) (get_or ws k 0)
unfolding total unpack
get_d_unpack [] l k h = absurd (omega arith)
get_d_unpack (w ∷ ws) l zero h = refl
get_d_unpack (w ∷ ws) l (suc k) h = get_d_unpack ws (drop w l) k (omega arith) ∙ rw drop-drop

pub column_drop : (l : List ℕ) (m at st w n : ℕ) → column_at (drop m l) at st w n ≡ column_at l (m + at) st w n
unfolding column_at
column_drop l m at st w zero = refl
column_drop l m at st w (suc n) = let e : m + at + st ≡ m + (at + st) = omega arith in rw (drop-drop at m l, column_drop l m (at + st) st w n, e)

pub col_read : (ws : List ℕ) (n : ℕ) (l : List ℕ) (k : ℕ) → k < length ws → col k (read_rows ws n l) ≡ column_at l (total (take k ws)) (total ws) (get_or ws k 0) n
unfolding read_rows column_at
col_read ws zero l k h = refl
col_read ws (suc n) l k h =
    let e : total ws + total (take k ws) ≡ total (take k ws) + total ws = omega arith in
    rw (get_d_unpack ws l k h, col_read ws n (drop (total ws) l) k h, column_drop l (total ws) (total (take k ws)) (total ws) (get_or ws k 0) n, e)

pub length_column : (l : List ℕ) (at st w n : ℕ) → length (column_at l at st w n) ≡ n
unfolding column_at
length_column l at st w zero = refl
length_column l at st w (suc n) = ap suc (length_column l (at + st) st w n)

pub length_read : (ws : List ℕ) (n : ℕ) (l : List ℕ) → length (read_rows ws n l) ≡ n
unfolding read_rows
length_read ws zero l = refl
length_read ws (suc n) l = ap suc (length_read ws n (drop (total ws) l))

pub fit_read : (ws : List ℕ) (n : ℕ) (l : List ℕ) → AllBits l → n * total ws ≤ length l → FitAll ws (read_rows ws n l)
unfolding read_rows FitAll
fit_read ws zero l h r = tt
fit_read ws (suc n) l h r =
    let e : suc n * total ws ≡ total ws + n * total ws = omega (arith, suc-mul n (total ws)) in
    (fit_unpack ws l h (omega (arith, e)), fit_read ws n (drop (total ws) l) (bits_drop (total ws) l h) (omega (arith, e, length-drop (total ws) l)))

-- one turn of a loop over n rows
pub fewer : (n i k : ℕ) → i < n → (n - i) * k ≡ k + (n - (i + 1)) * k
fewer n i k h = let e : n - i ≡ suc (n - (i + 1)) = omega arith in rw (e, suc-mul) (omega arith)

pub column_turn : (l : List ℕ) (pos st w n i : ℕ) → i < n → column_at l pos st w (n - i) ≡ field_at l pos w ∷ column_at l (pos + st) st w (n - (i + 1))
unfolding column_at
column_turn l pos st w n i h = let e : n - i ≡ suc (n - (i + 1)) = omega arith in rw e

pub rows_turn : (ws : List ℕ) (cols : List (List ℕ)) (n i : ℕ) → i < n → write_rows ws (rows_of cols i (n - i)) ≡ pack ws (map (λ (c : List ℕ). get_or c i 0) cols) ++ write_rows ws (rows_of cols (i + 1) (n - (i + 1)))
unfolding rows_of write_rows
rows_turn ws cols n i h = let e : n - i ≡ suc (n - (i + 1)) = omega arith in rw e

pub rows_none : (ws : List ℕ) (cols : List (List ℕ)) (n i : ℕ) → n ≤ i → write_rows ws (rows_of cols i (n - i)) ≡ []
unfolding rows_of write_rows
rows_none ws cols n i h = let e : n - i ≡ zero = omega arith in rw e

-- runs of stores that follow each other
pub sets_then : (l : List ℕ) (i n : ℕ) (xs ys : List ℕ) → i + length xs ≡ n → sets (sets l i xs) n ys ≡ sets l i (xs ++ ys)
sets_then l i n xs ys e = rw (← e) (sets_sets l i xs ys)

pub sets_pack3 : (l : List ℕ) (at w0 w1 w2 a b c : ℕ) → sets (sets (sets l at (bits w0 a)) (at + w0) (bits w1 b)) (at + w0 + w1) (bits w2 c) ≡ sets l at (pack (w0 ∷ w1 ∷ w2 ∷ []) (a ∷ b ∷ c ∷ []))
unfolding pack
sets_pack3 l at w0 w1 w2 a b c =
    let n : bits w2 c ++ [] ≡ bits w2 c = append-nil (bits w2 c) in
    let e1 = sets_then l at (at + w0) (bits w0 a) (bits w1 b) (omega (arith, length_bits w0 a)) in
    let e2 = sets_then l at (at + w0 + w1) (bits w0 a ++ bits w1 b) (bits w2 c) (omega (arith, length-append (bits w0 a) (bits w1 b), length_bits w0 a, length_bits w1 b)) in
    rw (n, e1, e2, append_assoc)

-- a list that grows by a place
pub zeros_more : (from i : ℕ) → from ≤ i → replicate {A = ℕ} (i + 1 - from) 0 ≡ replicate (i - from) 0 ++ (0 ∷ [])
zeros_more from i h = let e : i + 1 - from ≡ i - from + 1 = omega arith in rw e (sym (replicate-append-replicate (i - from) 1 0))

-- the first of many zeros
pub take_zeros : (n m : ℕ) → n ≤ m → take n (replicate {A = ℕ} m 0) ≡ replicate n 0
take_zeros zero m h = refl
take_zeros (suc n) zero h = absurd (omega arith)
take_zeros (suc n) (suc m) h = ap (λ (l : List ℕ). 0 ∷ l) (take_zeros n m (omega arith))

pub column_none : (l : List ℕ) (pos st w n i : ℕ) → n ≤ i → column_at l pos st w (n - i) ≡ []
unfolding column_at
column_none l pos st w n i h = let e : n - i ≡ zero = omega arith in rw e

pub take_store : (l : List ℕ) (i a : ℕ) → i < length l → take (i + 1) (set l i a) ≡ take i l ++ (a ∷ [])
take_store l i a h = rw add-one (take-suc-set l i a h)

-- lists that agree from place i on agree from the next on
pub drop_more : (i : ℕ) (l m : List ℕ) → drop i l ≡ drop i m → drop (i + 1) l ≡ drop (i + 1) m
drop_more i l m e = sym (drop-drop 1 i l) ∙ (ap (drop 1) e ∙ drop-drop 1 i m)

pub bits_of_zeros : (n : ℕ) → bits_of (replicate n 0) ≡ replicate (8 * n) 0
unfolding bits_of bits
bits_of_zeros zero = refl
bits_of_zeros (suc n) = let e : 8 * suc n ≡ 8 + 8 * n = omega arith in rw (e, bits_of_zeros n) (replicate-append-replicate 8 (8 * n) 0)

pub sets_pack4 : (l : List ℕ) (at w v a b c d : ℕ) → sets (sets l at (pack (w ∷ w ∷ v ∷ []) (a ∷ b ∷ c ∷ []))) (at + w + w + v) (bits v d) ≡ sets l at (pack (w ∷ w ∷ v ∷ v ∷ []) (a ∷ b ∷ c ∷ d ∷ []))
unfolding pack
sets_pack4 l at w v a b c d =
    let x = bits w a ++ (bits w b ++ (bits v c ++ [])) in
    let k : length x ≡ w + w + v = omega (arith, length-append (bits w a) (bits w b ++ (bits v c ++ [])), length-append (bits w b) (bits v c ++ []), length-append (bits v c) [], length_bits w a, length_bits w b, length_bits v c) in
    sets_then l at (at + w + w + v) x (bits v d) (omega arith) ∙ simp (append_assoc, append-nil)

pub col_at : (ws : List ℕ) (n : ℕ) (l : List ℕ) (at k : ℕ) → k < length ws → col k (read_rows ws n (drop at l)) ≡ column_at l (at + total (take k ws)) (total ws) (get_or ws k 0) n
col_at ws n l at k h = col_read ws n (drop at l) k h ∙ column_drop l at (total (take k ws)) (total ws) (get_or ws k 0) n
