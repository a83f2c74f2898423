-- Bytes told by their bits, and rows told by their columns.
use Prim.Native.Nat.{ℕ, zero, suc, ◌+◌, ◌^◌, ◌<◌}
use mathlib.Core.Path.{◌≡◌, refl, ap, sym, ◌∙◌}
use mathlib.Core.List.{List, [], ◌∷◌}
use mathlib.Core.Bool.{true}
use native.Mathlib.Omega.{arith}
use native.Mathlib.Nat.{mod-eq_of_lt}
use native.Mathlib.Numerals.{add-one}
use borrow.Author.Tests.{lt-ltb}
use lib.ListN.{length, take, drop, get_or, length-append, length-map}
use lib.Seq.{take_at, drop_at}
use Rattle.bits.specs.Bits.{bits, bits_of, num}
use Rattle.bits.specs.Rows.{Fit, FitAll, rows_of, col}
use Rattle.sheet.specs.Sheet.{blade_w, all_below}
use Rattle.sheet.specs.declared.Counts.{Counts}
use Rattle.std.specs.Prelude.{Ok, Err}
use Rattle.mesh.specs.declared.refusals.Refusal.{Refusal}
use Rattle.bits.proofs.Laws.{length_bits, num_bits}

-- a refusal is no whole sheet
pub never : (n : Refusal) (c : Counts) → Err n ≡ Ok c → ⊥
never n c e = let z : ◌≡◌ {A = ℕ} 0 1 = cc in omega arith

-- bytes are equal where their bits are
pub bits_of_inj : (a b : List ℕ) → ((i : ℕ) → get_or a i 0 < 256) → ((i : ℕ) → get_or b i 0 < 256) → bits_of a ≡ bits_of b → a ≡ b
unfolding bits_of
bits_of_inj [] [] h g e = refl
bits_of_inj [] (y ∷ b) h g e = absurd (omega (arith, ap length e, length-append (bits 8 y) (bits_of b), length_bits 8 y))
bits_of_inj (x ∷ a) [] h g e = absurd (omega (arith, ap length e, length-append (bits 8 x) (bits_of a), length_bits 8 x))
bits_of_inj (x ∷ a) (y ∷ b) h g e =
    let hx : x < 256 = h 0 in
    let hy : y < 256 = g 0 in
    let t : bits 8 x ≡ bits 8 y = sym (take_at (bits 8 x) (bits_of a) 8 (length_bits 8 x)) ∙ (ap (λ (l : List ℕ). take 8 l) e ∙ take_at (bits 8 y) (bits_of b) 8 (length_bits 8 y)) in
    let d : bits_of a ≡ bits_of b = sym (drop_at (bits 8 x) (bits_of a) 8 (length_bits 8 x)) ∙ (ap (λ (l : List ℕ). drop 8 l) e ∙ drop_at (bits 8 y) (bits_of b) 8 (length_bits 8 y)) in
    let v : x ≡ y = sym (mod-eq_of_lt hx) ∙ (sym (num_bits 8 x) ∙ (ap num t ∙ (num_bits 8 y ∙ mod-eq_of_lt hy))) in
    rw (v, bits_of_inj a b (λ i. h (suc i)) (λ i. g (suc i)) d)

get_d_next : (x : ℕ) (a : List ℕ) (i : ℕ) → get_or (x ∷ a) (i + 1) 0 ≡ get_or a i 0
get_d_next x a i = rw add-one

pub length_col : (rs : List (List ℕ)) (j : ℕ) → length (col j rs) ≡ length rs
length_col rs j = length-map rs (λ (r : List ℕ). get_or r j 0)

-- rows from columns of rows
shift3 : (x y z : ℕ) (a b c : List ℕ) (i n : ℕ) → rows_of ((x ∷ a) ∷ (y ∷ b) ∷ (z ∷ c) ∷ []) (i + 1) n ≡ rows_of (a ∷ b ∷ c ∷ []) i n
unfolding rows_of
shift3 x y z a b c i zero = refl
shift3 x y z a b c i (suc n) =
    rw (get_d_next x a i, get_d_next y b i, get_d_next z c i, shift3 x y z a b c (i + 1) n)

shift2 : (x y : ℕ) (a b : List ℕ) (i n : ℕ) → rows_of ((x ∷ a) ∷ (y ∷ b) ∷ []) (i + 1) n ≡ rows_of (a ∷ b ∷ []) i n
unfolding rows_of
shift2 x y a b i zero = refl
shift2 x y a b i (suc n) =
    rw (get_d_next x a i, get_d_next y b i, shift2 x y a b (i + 1) n)

-- rows of three fields, and of two
pub row3 : (u v w : ℕ) (r : List ℕ) → Fit (u ∷ v ∷ w ∷ []) r → (get_or r 0 0 ∷ get_or r 1 0 ∷ get_or r 2 0 ∷ [] ≡ r) × (get_or r 0 0 < 2 ^ u) × (get_or r 1 0 < 2 ^ v) × (get_or r 2 0 < 2 ^ w)
unfolding Fit
row3 u v w [] f = absurd f
row3 u v w (x ∷ []) f = absurd f.1
row3 u v w (x ∷ y ∷ []) f = absurd f.1.1
row3 u v w (x ∷ y ∷ z ∷ []) f = (refl, f.0, f.1.0, f.1.1.0)
row3 u v w (x ∷ y ∷ z ∷ q ∷ r) f = absurd f.1.1.1

pub row2 : (u v : ℕ) (r : List ℕ) → Fit (u ∷ v ∷ []) r → get_or r 0 0 ∷ get_or r 1 0 ∷ [] ≡ r
unfolding Fit
row2 u v [] f = absurd f
row2 u v (x ∷ []) f = absurd f.1
row2 u v (x ∷ y ∷ []) f = refl
row2 u v (x ∷ y ∷ z ∷ r) f = absurd f.1.1

pub rows_cols3 : (u v w : ℕ) (rs : List (List ℕ)) → FitAll (u ∷ v ∷ w ∷ []) rs → rows_of (col 0 rs ∷ col 1 rs ∷ col 2 rs ∷ []) 0 (length rs) ≡ rs
unfolding FitAll rows_of
rows_cols3 u v w [] f = refl
rows_cols3 u v w (r ∷ rs) f =
    rw (shift3 (get_or r 0 0) (get_or r 1 0) (get_or r 2 0) (col 0 rs) (col 1 rs) (col 2 rs) 0 (length rs), rows_cols3 u v w rs f.1, (row3 u v w r f.0).0)

pub rows_cols2 : (u v : ℕ) (rs : List (List ℕ)) → FitAll (u ∷ v ∷ []) rs → rows_of (col 0 rs ∷ col 1 rs ∷ []) 0 (length rs) ≡ rs
unfolding FitAll rows_of
rows_cols2 u v [] f = refl
rows_cols2 u v (r ∷ rs) f = rw (shift2 (get_or r 0 0) (get_or r 1 0) (col 0 rs) (col 1 rs) 0 (length rs), rows_cols2 u v rs f.1, row2 u v r f.0)

fit_at : (ws r : List ℕ) (k : ℕ) → Fit ws r → k < length ws → get_or r k 0 < 2 ^ get_or ws k 0
unfolding Fit
fit_at [] r k f h = absurd (omega arith)
fit_at (w ∷ ws) [] k f h = absurd f
fit_at (w ∷ ws) (x ∷ r) zero f h = f.0
fit_at (w ∷ ws) (x ∷ r) (suc k) f h = fit_at ws r k f.1 (omega arith)

pub below_col : (ws : List ℕ) (k : ℕ) → k < length ws → (rs : List (List ℕ)) → FitAll ws rs → all_below (2 ^ get_or ws k 0) (col k rs) ≡ true
unfolding FitAll all_below
below_col ws k h [] f = refl
below_col ws k h (r ∷ rs) f = rw (lt-ltb (get_or r k 0) (2 ^ get_or ws k 0) (fit_at ws r k f.0 h), below_col ws k h rs f.1)

pub fit_length : (ws r : List ℕ) → Fit ws r → length r ≡ length ws
unfolding Fit
fit_length [] [] f = refl
fit_length [] (x ∷ r) f = absurd f
fit_length (w ∷ ws) [] f = absurd f
fit_length (w ∷ ws) (x ∷ r) f = ap suc (fit_length ws r f.1)

pub blade_below : (d : List ℕ) → Fit blade_w d → all_below 2048 d ≡ true
unfolding Fit all_below
blade_below [] f = absurd f
blade_below (x ∷ []) f = absurd f.1
blade_below (x ∷ y ∷ []) f = absurd f.1.1
blade_below (x ∷ y ∷ z ∷ []) f = absurd f.1.1.1
blade_below (x ∷ y ∷ z ∷ w ∷ []) f = rw (lt-ltb x 2048 f.0, lt-ltb y 2048 f.1.0, lt-ltb z 2048 f.1.1.0, lt-ltb w 2048 f.1.1.1.0)
blade_below (x ∷ y ∷ z ∷ w ∷ v ∷ d) f = absurd f.1.1.1.1
