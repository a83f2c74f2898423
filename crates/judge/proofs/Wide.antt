-- A test of every row, asked column by column: all of a conjunction is the conjunction of alls; and a column asked value by value, to its end.
use Rattle.std.proofs.Common.{◌≡◌, ℕ, ◌+◌, ◌^◌, ◌<◌, ◌≤◌, Bool, true, false, ◌&&◌, ltb, List, [], ◌∷◌, get_or, sym, refl, ap, ◌∙◌, ap₂, arith, le-ltb, lt-ltb}
use native.Mathlib.Decide.{dec_le}
use lib.Bits.{bit_or, or_lt, or_add_and, and_le_l, and_le_r}
use Rattle.lists.specs.Lists.{all, up_to, tab}
use Rattle.lists.proofs.Steps.{all_step}
use Rattle.columns.proofs.Rows.{and_false}
use Rattle.model.specs.Valid.{flag?}
use Rattle.judge.specs.Told.{column_ok}
use Rattle.judge.proofs.Joined.{and_next}

-- two conjunctions of two, joined the other way
crossed : (p x q y : Bool) → ((p && x) && (q && y)) ≡ ((p && q) && (x && y))
crossed true true q y = refl
crossed true false q y = sym (and_false q)
crossed false x q y = refl

module _ {A : Type 0} (f g : A → Bool) where
  -- all of a conjunction is the conjunction of alls
  pub all_both : (l : List A) → (all f l && all g l) ≡ all (λ a. f a && g a) l
  unfolding all
  all_both [] = refl
  all_both (a ∷ l) = crossed (f a) (all f l) (g a) (all g l) ∙ ap (λ (t : Bool). (f a && g a) && t) (all_both l)

  -- one column more
  pub and_told : (l : List A) (z y t : Bool) → z ≡ (y && t) → y ≡ all f l → t ≡ all g l → z ≡ all (λ a. f a && g a) l
  and_told l z y t e p q = and_next z y (all f l) t (all g l) e p q ∙ all_both l

  -- tests that answer alike
  pub all_alike : (l : List A) → ((a : A) → f a ≡ g a) → all f l ≡ all g l
  unfolding all
  all_alike [] h = refl
  all_alike (a ∷ l) h = ap₂ (λ (s t : Bool). s && t) (h a) (all_alike l h)

module _ (f : ℕ → Bool) where
  -- nothing is asked yet
  pub none_told : true ≡ all f (up_to 0)
  unfolding all up_to tab
  none_told = refl

  -- one value more
  pub more_told : (i : ℕ) (z y t : Bool) → z ≡ (y && t) → y ≡ all f (up_to i) → t ≡ f i → z ≡ all f (up_to (i + 1))
  unfolding up_to
  more_told i z y t e p q = and_next z y (all f (up_to i)) t (f i) e p q ∙ sym (all_step f (λ k. k) i)

  -- at the end every value was asked
  pub end_told : (n i : ℕ) (z : Bool) → z ≡ all f (up_to i) → i ≤ n → n ≤ i → z ≡ all f (up_to n)
  end_told n i z e g k = let q : i ≡ n = omega arith in rw (sym q) e

-- the bits of two words make a word below a power of two where both words are
pub or_below : (k a b : ℕ) → ltb (bit_or a b) (2 ^ k) ≡ (ltb a (2 ^ k) && ltb b (2 ^ k))
or_below k a b = by (dec_le (2 ^ k) a) (dec_le (2 ^ k) b)
  where
    by : Dec (2 ^ k ≤ a) → Dec (2 ^ k ≤ b) → ltb (bit_or a b) (2 ^ k) ≡ (ltb a (2 ^ k) && ltb b (2 ^ k))
    by (yes p) q = rw (le-ltb a (2 ^ k) p, le-ltb (bit_or a b) (2 ^ k) (omega (arith, p, or_add_and a b, and_le_r a b))) refl
    by (no p) (yes q) = rw (le-ltb b (2 ^ k) q, le-ltb (bit_or a b) (2 ^ k) (omega (arith, q, or_add_and a b, and_le_l a b)), and_false (ltb a (2 ^ k))) refl
    by (no p) (no q) =
        let h : a < 2 ^ k = omega (arith, p) in
        let g : b < 2 ^ k = omega (arith, q) in
        rw (lt-ltb a (2 ^ k) h, lt-ltb b (2 ^ k) g, lt-ltb (bit_or a b) (2 ^ k) (or_lt k a b h g)) refl

-- one flag more, by the word of all bits
pub flag_told : (s : List ℕ) (at i v : ℕ) → ltb v 2 ≡ column_ok flag? 0 s at i → ltb (bit_or v (get_or s (at + i) 0)) 2 ≡ column_ok flag? 0 s at (i + 1)
flag_told s at i v p = more_told (λ (k : ℕ). flag? (get_or s (at + k) 0)) i (ltb (bit_or v (get_or s (at + i) 0)) 2) (ltb v 2) (ltb (get_or s (at + i) 0) 2) (or_below 1 v (get_or s (at + i) 0)) p refl
