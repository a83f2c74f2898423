-- Words written as bytes, read back. Assumes nothing.
use Prim.Native.Nat.{ℕ, zero, suc, ◌+◌, ◌*◌, ◌/◌, ◌%◌, ◌<◌}
use mathlib.Core.Path.{◌≡◌, sym, ap, ◌∙◌, subst}
use mathlib.Core.Bool.{false}
use mathlib.Core.List.{List, [], ◌∷◌, ◌++◌, append_assoc}
use native.Mathlib.Omega.{arith}
use lib.Dec.{T}
use lib.ListN.{length, get_or, length-append, length-map, get_or-append}
use lib.Seq.{get_or-append-add}
use lib.Ieee.{Float, nan, binary32, fits, is_nan, of_bits, to_bits, nan_bits}
use lib.Ieee.Bits.{of_bits-to_bits, to_bits-lt, nan_bits_is}
use Rattle.lists.specs.Lists.{tab, each}
use Rattle.lists.proofs.Stores.{map_at}
use Rattle.columns.specs.Block.{stack}
use Rattle.columns.proofs.Rows.{tab_ext, tab_of}
use Rattle.model.specs.Trace.{All}
use Rattle.model_laws.proofs.Laws.{all_in, all_append}
use Rattle.image.specs.Words.{word_at_of, words_from, numbers_from, number_of, bytes_of, bits_in_of}
use Rattle.imaged.specs.Bytes.{bytes_in}

-- a word of four bytes
abbrev pub Word : ℕ → Type 0
Word w = w < 4294967296

-- four bytes are their word
word_bytes : (w : ℕ) → Word w → w % 256 + 256 * (w / 256 % 256) + 65536 * (w / 65536 % 256) + 16777216 * (w / 16777216 % 256) ≡ w
word_bytes w h =
    let a : w / 65536 ≡ w / 256 / 256 = omega arith in
    let b : w / 16777216 ≡ w / 256 / 256 / 256 = omega arith in
    let c : w / 256 / 256 / 256 % 256 ≡ w / 256 / 256 / 256 = omega arith in
    rw (a, b, c) (omega arith)

word_first : (w : ℕ) (ws : List ℕ) → Word w → word_at_of (bytes_of w ++ ws) zero ≡ w
unfolding word_at_of
word_first w ws h = word_bytes w h

-- a word behind the first
word_next : (w : ℕ) (ws : List ℕ) (i : ℕ) → word_at_of (bytes_of w ++ ws) (suc i) ≡ word_at_of ws i
unfolding word_at_of
word_next w ws i =
    let a : 4 * suc i ≡ suc (suc (suc (suc (4 * i)))) = omega arith in
    let b : 4 * suc i + 1 ≡ suc (suc (suc (suc (4 * i + 1)))) = omega arith in
    let c : 4 * suc i + 2 ≡ suc (suc (suc (suc (4 * i + 2)))) = omega arith in
    let d : 4 * suc i + 3 ≡ suc (suc (suc (suc (4 * i + 3)))) = omega arith in
    rw (b, c, d, a)

-- word i of the bytes of words, whatever stands behind them
pub word_of : (ws x : List ℕ) (i : ℕ) → i < length ws → Word (get_or ws i 0) → word_at_of (bytes_in ws ++ x) i ≡ get_or ws i 0
unfolding each
word_of [] x i h q = absurd (omega arith)
word_of (w ∷ ws) x zero h q = ap (λ (l : List ℕ). word_at_of l zero) (append_assoc (bytes_of w) (each bytes_of ws) x) ∙ word_first w (each bytes_of ws ++ x) q
word_of (w ∷ ws) x (suc i) h q = ap (λ (l : List ℕ). word_at_of l (suc i)) (append_assoc (bytes_of w) (each bytes_of ws) x) ∙ (word_next w (each bytes_of ws ++ x) i ∙ word_of ws x i (omega arith) q)

-- a list between two others
middle : (A B C : List ℕ) (k : ℕ) → k < length B → get_or (A ++ (B ++ C)) (length A + k) 0 ≡ get_or B k 0
middle A B C k h = get_or-append-add A (B ++ C) k 0 ∙ get_or-append B C 0 k h

-- the words B that stand behind the words A
module _ (A B C x : List ℕ) (at n : ℕ) (a : length A ≡ at) (b : length B ≡ n) (small : All Word B) where
  word_there : (k : ℕ) → k < n → word_at_of (bytes_in (A ++ (B ++ C)) ++ x) (at + k) ≡ get_or B k 0
  word_there k h =
      let l : k < length B = omega arith in
      let g : get_or (A ++ (B ++ C)) (at + k) 0 ≡ get_or B k 0 = ap (λ (m : ℕ). get_or (A ++ (B ++ C)) (m + k) 0) (sym a) ∙ middle A B C k l in
      let m : at + k < length (A ++ (B ++ C)) = omega (arith, length-append A (B ++ C), length-append B C) in
      word_of (A ++ (B ++ C)) x (at + k) m (subst Word (sym g) (all_in Word B k 0 l small)) ∙ g

  pub words_there : words_from (bytes_in (A ++ (B ++ C)) ++ x) at n ≡ B
  unfolding words_from
  words_there = tab_ext n _ (λ k. get_or B k 0) word_there ∙ (ap (λ (m : ℕ). tab m (λ k. get_or B k 0)) (sym b) ∙ tab_of B 0)

-- ---- numbers

-- a number that f32 holds and that is none of the NaNs
abbrev pub Plain : Float → Type 0
Plain x = T (fits binary32 x) × (is_nan x ≡ false)

-- its pattern is a word, and is read as the number again
pub bits_word : (x : Float) → Plain x → Word (to_bits binary32 x)
bits_word x p = to_bits-lt binary32 x p.0

pub number_again : (x : Float) → Plain x → number_of (to_bits binary32 x) ≡ x
unfolding number_of
number_again x p =
    let e : of_bits binary32 (to_bits binary32 x) ≡ x = of_bits-to_bits binary32 x p.0 in
    let n : nan_bits binary32 (to_bits binary32 x) ≡ false = nan_bits_is binary32 (to_bits binary32 x) ∙ (ap is_nan e ∙ p.1) in
    rw n e

all_bits : (F : List Float) → All Plain F → All Word (bits_in_of F)
all_bits [] h = tt
all_bits (x ∷ F) h = (bits_word x h.0, all_bits F h.1)

-- the numbers F whose patterns stand behind the words A
module _ (A : List ℕ) (F : List Float) (C x : List ℕ) (at n : ℕ) (a : length A ≡ at) (b : length F ≡ n) (plain : All Plain F) where
  number_there : (k : ℕ) → k < n → number_of (word_at_of (bytes_in (A ++ (bits_in_of F ++ C)) ++ x) (at + k)) ≡ get_or F k nan
  number_there k h =
      let l : k < length F = omega arith in
      let w = word_there A (bits_in_of F) C x at n a (length-map F (to_bits binary32) ∙ b) (all_bits F plain) k h in
      ap number_of (w ∙ map_at (to_bits binary32) F k nan 0 l) ∙ number_again (get_or F k nan) (all_in Plain F k nan l plain)

  pub numbers_there : numbers_from (bytes_in (A ++ (bits_in_of F ++ C)) ++ x) at n ≡ F
  unfolding numbers_from
  numbers_there = tab_ext n _ (λ k. get_or F k nan) number_there ∙ (ap (λ (m : ℕ). tab m (λ k. get_or F k nan)) (sym b) ∙ tab_of F nan)

-- ---- columns one behind the other

module _ {A : Type 0} (P : A → Type 0) (f : ℕ → List A) (h : (c : ℕ) → All P (f c)) where
  pub stack_all : (w : ℕ) → All P (stack w f)
  unfolding stack
  stack_all zero = tt
  stack_all (suc w) = all_append P (stack w f) (f w) (stack_all w) (h w)
