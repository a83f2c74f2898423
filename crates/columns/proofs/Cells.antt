-- The laws of cells: where the places of a block's columns lie, and what a store and a part that was lent do to them.
use Prim.Native.Nat.{ℕ, ◌+◌, ◌*◌, ◌-◌, ◌≤◌, ◌<◌}
use native.Mathlib.Nat.{suc-mul, mul-le-mul_right}
use native.Mathlib.Numerals.{add-one}
use native.Mathlib.Omega.{arith}
use native.Mathlib.Decide.{ℕ_discrete}
use mathlib.Core.Path.{◌≡◌, sym, ap, ◌∙◌}
use mathlib.Core.List.{List, ◌++◌, append_assoc}
use lib.ListN.{length, get_or, take, drop, set, length-append, get_or-append}
use lib.Seq.{get_or-set_same, get_or-set_other, get_or-take, get_or-drop, get_or-append-add, length-take-le, take_at}
use borrow.Rule.Slice.PartMut.{mid_of, post_of, put_mid, mid_len, same_len_mid}
use Rattle.columns.specs.Block.{cell}

-- where the next column begins
pub next_col : (c R : ℕ) → (c + 1) * R ≡ c * R + R
next_col c R = rw (add-one c) (suc-mul c R)

-- a column lies within the columns up to any later one
pub col_fits : (c w R : ℕ) → c < w → c * R + R ≤ w * R
col_fits c w R h = rw suc-mul at (mul-le-mul_right R h)

-- places in different rows differ
pub apart : (c b R k i : ℕ) → k < R → i < R → (k ≡ i → ⊥) → c * R + k ≡ b * R + i → ⊥
apart c b R k i hk hi ne e = by (ℕ_discrete c b)
  where
    by : Dec (c ≡ b) → ⊥
    by (yes q) = let f : c * R ≡ b * R = ap (λ (x : ℕ). x * R) q in omega (arith, ne)
    by (no q) =
        let low : c < b → ⊥ = λ h. omega (arith, col_fits c b R h) in
        let high : b < c → ⊥ = λ h. omega (arith, col_fits b c R h) in
        omega (arith, low, high)

-- places in different columns differ
pub apart_col : (c b R k i : ℕ) → k < R → i < R → (c ≡ b → ⊥) → c * R + k ≡ b * R + i → ⊥
apart_col c b R k i hk hi ne e =
    let low : c < b → ⊥ = λ h. omega (arith, col_fits c b R h) in
    let high : b < c → ⊥ = λ h. omega (arith, col_fits b c R h) in
    omega (arith, low, high)

module _ {A : Type 0} (d : A) (R : ℕ) where
  -- a store is read back
  pub store_same : (s : List A) (c i : ℕ) (a : A) → c * R + i < length s → cell d R (set s (c * R + i) a) c i ≡ a
  unfolding cell
  store_same s c i a h = get_or-set_same s (c * R + i) a d h

  -- a store in another row leaves a cell
  pub store_row : (s : List A) (c i : ℕ) (a : A) (b k : ℕ) → k < R → i < R → (k ≡ i → ⊥) → cell d R (set s (c * R + i) a) b k ≡ cell d R s b k
  unfolding cell
  store_row s c i a b k hk hi ne = get_or-set_other s (c * R + i) (b * R + k) a d (apart b c R k i hk hi ne)

  -- a store in another column leaves a cell
  pub store_col : (s : List A) (c i : ℕ) (a : A) (b k : ℕ) → k < R → i < R → (b ≡ c → ⊥) → cell d R (set s (c * R + i) a) b k ≡ cell d R s b k
  unfolding cell
  store_col s c i a b k hk hi ne = get_or-set_other s (c * R + i) (b * R + k) a d (apart_col b c R k i hk hi ne)

-- a part of R places from o on that was lent, and came back as p
module _ {A : Type 0} (d : A) (s p : List A) (o R : ℕ) (fits : o + R ≤ length s) (long : length p ≡ length (mid_of o (o + R - o) s)) where
  -- it has R places
  pub part_long : length p ≡ R
  part_long = let e : o + R - o ≡ R = omega arith in long ∙ mid_len o (o + R) s fits ∙ e

  -- what stands before it is as it was
  pub part_before : (j : ℕ) → j < o → get_or (put_mid o (o + R - o) s p) j d ≡ get_or s j d
  part_before j h =
      let l : length (take o s) ≡ o = length-take-le o s (omega arith) in
      get_or-append (take o s) (p ++ post_of o (o + R - o) s) d j (rw l h) ∙ get_or-take o s j d h

  -- what stands in it is what came back
  pub part_in : (k : ℕ) → k < R → get_or (put_mid o (o + R - o) s p) (o + k) d ≡ get_or p k d
  part_in k h =
      let l : length (take o s) ≡ o = length-take-le o s (omega arith) in
      ap (λ (j : ℕ). get_or (put_mid o (o + R - o) s p) (j + k) d) (sym l) ∙ get_or-append-add (take o s) (p ++ post_of o (o + R - o) s) k d
      ∙ get_or-append p (post_of o (o + R - o) s) d k (rw part_long h)

  -- the whole has its length still
  pub part_length : length (put_mid o (o + R - o) s p) ≡ length s
  part_length = same_len_mid o (o + R - o) s p long

  -- the front up to its end
  pub part_front : take (o + R) (put_mid o (o + R - o) s p) ≡ take o s ++ p
  part_front =
      ap (take (o + R)) (sym (append_assoc (take o s) p (post_of o (o + R - o) s)))
      ∙ take_at (take o s ++ p) (post_of o (o + R - o) s) (o + R) (length-append (take o s) p ∙ let l : length (take o s) ≡ o = length-take-le o s (omega arith) in omega (arith, part_long))

-- what a lent part has at a place
pub mid_at : {A : Type 0} (d : A) (s : List A) (o R k : ℕ) → k < R → get_or (mid_of o (o + R - o) s) k d ≡ get_or s (o + k) d
mid_at d s o R k h = get_or-take (o + R - o) (drop o s) k d (omega arith) ∙ get_or-drop o s k d

-- the first two columns, as a program writes their places
pub col_0 : {A : Type 0} (d : A) (R : ℕ) (s : List A) (k : ℕ) → cell d R s 0 k ≡ get_or s k d
unfolding cell
col_0 d R s k = let e : 0 * R + k ≡ k = omega arith in ap (λ (j : ℕ). get_or s j d) e

pub col_1 : {A : Type 0} (d : A) (R : ℕ) (s : List A) (k : ℕ) → cell d R s 1 k ≡ get_or s (R + k) d
unfolding cell
col_1 d R s k = let e : 1 * R + k ≡ R + k = omega arith in ap (λ (j : ℕ). get_or s j d) e
