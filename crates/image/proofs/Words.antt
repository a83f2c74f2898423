-- Laws of words in bytes: which patterns are no NaN, a block that fills from the front, and the words written so far. Assumes nothing.
use Prim.Native.Nat.{ℕ, zero, suc, ◌+◌, ◌-◌, ◌*◌, ◌/◌, ◌%◌, ◌≤◌, ◌<◌, zero-le}
use native.Mathlib.Numerals.{add-one}
use native.Mathlib.Omega.{arith}
use native.Mathlib.Decide.{dec_le}
use native.Mathlib.Nat.{not-suc-le-zero, le_of_suc-le-suc, suc-add, sub-zero, zero-sub, suc-sub-suc}
use mathlib.Core.Path.{◌≡◌, refl, sym, ap, ap₂, subst, ◌∙◌}
use mathlib.Core.Bool.{Bool, true, false}
use mathlib.Core.List.{List, [], ◌∷◌, ◌++◌, append_assoc}
use lib.Dec.{T, ltb}
use lib.Bits.{bit_and, and_mask, and_high}
use lib.Ieee.{Float, inf, binary32, nan_bits, of_bits, to_bits, ne}
use lib.Ieee.Bits.{nan_bits_above}
use lib.Ieee.Compare.{differs_from_itself}
use lib.ListN.{length, get_or, take, drop, set, replicate, length-set, length-append}
use lib.Seq.{take_at, drop_at, drop-drop, take-suc, length-take-le}
use borrow.Author.Tests.{le-ltb, lt-ltb}
use Rattle.lists.specs.Lists.{pick, tab, each, padded}
use Rattle.lists.proofs.Sifts.{each_append}
use Rattle.lists.proofs.Steps.{tab_step}
use Rattle.columns.proofs.Sweep.{front_grows}
use Rattle.image.specs.Words.{number_of, bytes_of, written, put_word_of}

-- ---- numbers

-- a pattern whose bits without the sign are at most infinity's is no NaN's
pub no_nan : (w : ℕ) → w % 2147483648 ≤ 2139095040 → nan_bits binary32 w ≡ false
no_nan w h = nan_bits_above binary32 w ∙ le-ltb 2139095040 (w % 2147483648) h

-- one above it is
pub is_nan : (w : ℕ) → 2139095040 < w % 2147483648 → nan_bits binary32 w ≡ true
is_nan w h = nan_bits_above binary32 w ∙ lt-ltb 2139095040 (w % 2147483648) h

-- the number of a pattern, in the two cases
pub number_plain : (w : ℕ) → w % 2147483648 ≤ 2139095040 → of_bits binary32 w ≡ number_of w
unfolding number_of
number_plain w h = rw (no_nan w h)

pub number_nan : (w : ℕ) → 2139095040 < w % 2147483648 → inf false ≡ number_of w
unfolding number_of
number_nan w h = rw (is_nan w h)

-- the pattern of what differs from itself
pub nan_bits_lem : (x : Float) → ne x x ≡ true → 2143289344 ≡ to_bits binary32 x
unfolding to_bits
nan_bits_lem x h = subst (λ (z : Float). 2143289344 ≡ to_bits binary32 z) (sym (differs_from_itself x (subst T (sym h) tt))) refl

-- the bits that a number keeps of its word: all of them, or those of an infinity
pub kept_bits :
    (w k : ℕ) → w < 4294967296 → k ≡ pick (ltb 2139095040 (w % 2147483648)) 2139095040 4294967295
    → (nan_bits binary32 (bit_and w k) ≡ false) × (of_bits binary32 (bit_and w k) ≡ number_of w)
unfolding of_bits nan_bits
kept_bits w k h e = by (dec_le (w % 2147483648) 2139095040)
  where
    by : Dec (w % 2147483648 ≤ 2139095040) → (nan_bits binary32 (bit_and w k) ≡ false) × (of_bits binary32 (bit_and w k) ≡ number_of w)
    by (yes p) =
        let f : k ≡ 4294967295 = e ∙ ap (λ (t : Bool). pick t 2139095040 4294967295) (le-ltb 2139095040 (w % 2147483648) p) in
        let g : bit_and w k ≡ w = ap (λ (m : ℕ). bit_and w m) f ∙ and_mask w 32 ∙ omega (arith, h) in
        rw g (no_nan w p, number_plain w p)
    by (no p) =
        let q : 2139095040 < w % 2147483648 = omega (arith, p) in
        let f : k ≡ 2139095040 = e ∙ ap (λ (t : Bool). pick t 2139095040 4294967295) (lt-ltb 2139095040 (w % 2147483648) q) in
        let g : bit_and w k ≡ 2139095040 = ap (λ (m : ℕ). bit_and w m) f ∙ and_high w 8 23 ∙ omega (arith, h, q) in
        rw g (refl, number_nan w q)

-- ---- a block that fills from the front

module _ {A : Type 0} where
  -- at the head of the loop: the first i places hold f 0, .., f (i - 1)
  pub record Filling (f : ℕ → A) (n : ℕ) (s₀ s : List A) (i : ℕ) : Type 0 where
    pub front : take i s ≡ tab i f
    pub long : length s ≡ length s₀
    pub below : i ≤ n

  pub fill_start : (f : ℕ → A) (n : ℕ) (s : List A) → Filling f n s s 0
  unfolding tab
  fill_start f n s = record { front = refl; long = refl; below = zero-le }

  pub fill_more : (f : ℕ → A) (n : ℕ) (s₀ s : List A) (i : ℕ) (x : A) → Filling f n s₀ s i → i < n → n ≤ length s₀ → x ≡ f i → Filling f n s₀ (set s i x) (i + 1)
  fill_more f n s₀ s i x v h g e =
      record {
        front = front_grows s (tab i f) i x v.front (omega (arith, v.long)) ∙ ap (λ (y : A). tab i f ++ (y ∷ [])) e ∙ sym (tab_step f i);
        long = length-set s i x ∙ v.long;
        below = omega arith;
      }

  pub fill_done : (f : ℕ → A) (n : ℕ) (s₀ s : List A) (i : ℕ) → Filling f n s₀ s i → n ≤ i → take n s ≡ tab n f
  fill_done f n s₀ s i v h =
      let e : i ≡ n = omega (arith, v.below) in
      subst (λ (k : ℕ). take k s ≡ tab k f) e v.front

-- ---- words written

-- four stores, one behind the other
pub set_four : (s : List ℕ) (k a b c d : ℕ) → k + 4 ≤ length s
    → set (set (set (set s k a) (k + 1) b) (k + 2) c) (k + 3) d ≡ take k s ++ (a ∷ b ∷ c ∷ d ∷ drop (k + 4) s)
set_four [] k a b c d h = absurd (omega arith)
set_four (x ∷ []) zero a b c d h = absurd (not-suc-le-zero (le_of_suc-le-suc h))
set_four (x ∷ y ∷ []) zero a b c d h = absurd (not-suc-le-zero (le_of_suc-le-suc (le_of_suc-le-suc h)))
set_four (x ∷ y ∷ z ∷ []) zero a b c d h = absurd (not-suc-le-zero (le_of_suc-le-suc (le_of_suc-le-suc (le_of_suc-le-suc h))))
set_four (x ∷ y ∷ z ∷ w ∷ s) zero a b c d h = refl
set_four (x ∷ s) (suc k) a b c d h = rw (suc-add k 1, suc-add k 2, suc-add k 3, suc-add k 4) (ap (λ (l : List ℕ). x ∷ l) (set_four s k a b c d (omega arith)))

-- the same of a word's bytes
pub four_stored : (s : List ℕ) (i w a b c d : ℕ) → a ≡ w % 256 → b ≡ w / 256 % 256 → c ≡ w / 65536 % 256 → d ≡ w / 16777216 % 256 → 4 * i + 4 ≤ length s
    → set (set (set (set s (4 * i) a) (4 * i + 1) b) (4 * i + 2) c) (4 * i + 3) d ≡ put_word_of s i w
four_stored s i w a b c d ea eb ec ed h = rw (ea, eb, ec, ed) (set_four s (4 * i) (w % 256) (w / 256 % 256) (w / 65536 % 256) (w / 16777216 % 256) h)

-- each word has four bytes
pub bytes_length : (ws : List ℕ) → length (each bytes_of ws) ≡ 4 * length ws
unfolding each
bytes_length [] = refl
bytes_length (w ∷ ws) = omega (arith, bytes_length ws)

-- what is left of a run of one value
pub drop_replicate : (k n z : ℕ) → drop k (replicate n z) ≡ replicate (n - k) z
drop_replicate zero n z = rw sub-zero
drop_replicate (suc k) zero z = rw zero-sub
drop_replicate (suc k) (suc n) z = drop_replicate k n z ∙ ap (λ (m : ℕ). replicate m z) (sym (suc-sub-suc n k))

-- bytes behind those that stand there, in a run of lent bytes
pub bytes_more : (lent k m : ℕ) (a b : List ℕ) → length a ≡ k → length b ≡ m → k + m ≤ lent
    → take k (padded lent 0 a) ++ (b ++ drop (k + m) (padded lent 0 a)) ≡ padded lent 0 (a ++ b)
unfolding padded
bytes_more lent k m a b ea eb h =
    let r : List ℕ = replicate (lent - length a) 0 in
    let n : lent - length a - m ≡ lent - length (a ++ b) = omega (arith, length-append a b) in
    let d : drop (k + m) (a ++ r) ≡ replicate {A = ℕ} (lent - length (a ++ b)) 0 =
    sym (drop-drop m k (a ++ r)) ∙ ap (drop m) (drop_at a r k ea) ∙ drop_replicate m (lent - length a) 0 ∙ ap (λ (m : ℕ). replicate {A = ℕ} m 0) n in
    ap₂ (λ (x y : List ℕ). x ++ (b ++ y)) (take_at a r k ea) d ∙ sym (append_assoc a b (replicate (lent - length (a ++ b)) 0))

-- one word more behind those that stand there
pub put_next : (lent : ℕ) (ws : List ℕ) (i w : ℕ) → length ws ≡ i → 4 * i + 4 ≤ lent → put_word_of (written lent ws) i w ≡ written lent (ws ++ (w ∷ []))
unfolding written each
put_next lent ws i w e h =
    bytes_more lent (4 * i) 4 (each bytes_of ws) (bytes_of w) (bytes_length ws ∙ ap (λ (m : ℕ). 4 * m) e) refl h ∙ ap (padded lent 0) (sym (each_append bytes_of ws (w ∷ [])))

-- the same of a store that a function made
pub put_more : (lent : ℕ) (ws s s' : List ℕ) (i w : ℕ) → s ≡ written lent ws → s' ≡ put_word_of s i w → length ws ≡ i → 4 * i + 4 ≤ lent → s' ≡ written lent (ws ++ (w ∷ []))
put_more lent ws s s' i w e f g h = f ∙ ap (λ (l : List ℕ). put_word_of l i w) e ∙ put_next lent ws i w g h

-- at the head of the loop: one word and the first i of a table are written
pub record Writing (first : ℕ) (table : List ℕ) (n : ℕ) (s₀ s : List ℕ) (i : ℕ) : Type 0 where
  pub front : s ≡ written (length s₀) (first ∷ take i table)
  pub long : length s ≡ length s₀
  pub below : i ≤ n

pub write_start : (first : ℕ) (table : List ℕ) (n lent : ℕ) (s : List ℕ) → s ≡ written lent (first ∷ []) → length s ≡ lent → Writing first table n s s 0
write_start first table n lent s e f = record { front = e ∙ ap (λ (m : ℕ). written m (first ∷ [])) (sym f); long = refl; below = zero-le }

pub write_more : (first : ℕ) (table : List ℕ) (n : ℕ) (s₀ s s' : List ℕ) (i : ℕ) → Writing first table n s₀ s i → i < n → n ≤ length table → 4 * n + 4 ≤ length s₀
    → s' ≡ put_word_of s (i + 1) (get_or table i 0) → length s' ≡ length s → Writing first table n s₀ s' (i + 1)
write_more first table n s₀ s s' i v h g k e f =
    let long : length (take i table) ≡ i = length-take-le i table (omega arith) in
    let next : take (i + 1) table ≡ take i table ++ (get_or table i 0 ∷ []) = rw (add-one i) (take-suc table i 0 (omega arith)) in
    record {
      front =
          put_more (length s₀) (first ∷ take i table) s s' (i + 1) (get_or table i 0) v.front e (omega arith) (omega arith)
          ∙ ap (λ (l : List ℕ). written (length s₀) (first ∷ l)) (sym next);
      long = f ∙ v.long;
      below = omega arith;
    }

pub write_done : (first : ℕ) (table : List ℕ) (n lent : ℕ) (s₀ s : List ℕ) (i : ℕ) → Writing first table n s₀ s i → n ≤ i → length s₀ ≡ lent → s ≡ written lent (first ∷ take n table)
write_done first table n lent s₀ s i v h f =
    let e : i ≡ n = omega (arith, v.below) in
    v.front ∙ ap₂ (λ (a b : ℕ). written a (first ∷ take b table)) f e
