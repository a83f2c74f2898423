-- Laws of runs of words: one word more, an index told by a word; a run is a column of the block that it lies in, and a run of several columns is these columns. Assumes nothing.
use Prim.Native.Nat.{ℕ, zero, suc, ◌+◌, ◌*◌, ◌≤◌}
use native.Mathlib.Numerals.{add-one}
use native.Mathlib.Nat.{add-suc, add-zero}
use native.Mathlib.Omega.{arith}
use native.Mathlib.Decide.{dec_le}
use mathlib.Core.Path.{◌≡◌, refl, sym, ap, ap₂, ◌∙◌}
use mathlib.Core.Bool.{Bool, ◌&&◌, and_assoc}
use mathlib.Core.List.{List}
use lib.ListN.{get_or}
use lib.Bits.{bit_or}
use lib.Dec.{ltb}
use lib.Ieee.{Float, nan}
use borrow.Author.Tests.{le-ltb, lt-ltb}
use Rattle.lists.specs.Lists.{all, up_to, tab}
use Rattle.lists.proofs.Steps.{all_step}
use Rattle.lists.proofs.Truths.{and_end}
use Rattle.columns.proofs.Rows.{all_tab, tab_ext, tab_at}
use Rattle.model.specs.Valid.{flag?}
use Rattle.judge.specs.Told.{column_ok, fine}
use Rattle.judge.proofs.Wide.{more_told, or_below}
use Rattle.image.specs.Words.{word_at_of, number_of, words_from, numbers_from}
use Rattle.image_checks.specs.Runs.{words_ok, numbers_ok}

-- one flag more, by the word of all bits
pub flag_more : (s : List ℕ) (at i v w : ℕ) → w ≡ word_at_of s (at + i) → ltb v 2 ≡ words_ok flag? s at i → ltb (bit_or v w) 2 ≡ words_ok flag? s at (i + 1)
flag_more s at i v w e p = more_told (λ (k : ℕ). flag? (word_at_of s (at + k))) i (ltb (bit_or v w) 2) (ltb v 2) (ltb w 2) (or_below 1 v w) p (ap flag? e)

-- an index, by its sum with the room
pub one_fine : (n room a : ℕ) → n + room ≡ 9223372036854775808 → fine (a + room) ≡ ltb a n
unfolding fine
one_fine n room a h =
    elim (dec_le n a) [
      | yes p ↦ le-ltb (a + room) 9223372036854775808 (omega (arith, p, h)) ∙ sym (le-ltb a n p)
      | no p ↦ lt-ltb (a + room) 9223372036854775808 (omega (arith, p, h)) ∙ sym (lt-ltb a n (omega (arith, p)))
    ]

-- ---- a column of a block

module _ {A : Type 0} (p : A → Bool) (d : A) (f : ℕ → A) where
  -- the values of a table from a place on
  run_column : (g : ℕ → A) (N off n : ℕ) → off + n ≤ N → ((k : ℕ) → g k ≡ f (off + k)) → all (λ (k : ℕ). p (g k)) (up_to n) ≡ column_ok p d (tab N f) off n
  run_column g N off n h e =
      sym (all_tab p n g) ∙ ap (all p) (tab_ext n g (λ k. get_or (tab N f) (off + k) d) (λ k l. e k ∙ sym (tab_at N f (off + k) d (omega arith))))
      ∙ all_tab p n (λ k. get_or (tab N f) (off + k) d)

module _ (s : List ℕ) (at N off a n : ℕ) (e : a ≡ at + off) (h : off + n ≤ N) where
  -- the word at a place, counted from the run's start and from the block's
  same_place : (k : ℕ) → a + k ≡ at + (off + k)
  same_place k = omega (arith, e)

  -- numbers
  pub numbers_column : (p : Float → Bool) → numbers_ok p s a n ≡ column_ok p nan (numbers_from s at N) off n
  unfolding numbers_from
  numbers_column p =
      run_column p nan (λ k. number_of (word_at_of s (at + k))) (λ k. number_of (word_at_of s (a + k))) N off n h (λ k. ap (λ (m : ℕ). number_of (word_at_of s m)) (same_place k))

  -- words
  pub words_column : (p : ℕ → Bool) → words_ok p s a n ≡ column_ok p 0 (words_from s at N) off n
  unfolding words_from
  words_column p = run_column p 0 (λ k. word_at_of s (at + k)) (λ k. word_at_of s (a + k)) N off n h (λ k. ap (word_at_of s) (same_place k))

-- ---- several columns

-- a test of the n places from `at` on
abbrev run : (ℕ → Bool) → ℕ → ℕ → Bool
run f at n = all (λ (k : ℕ). f (at + k)) (up_to n)

module _ (f : ℕ → Bool) where
  -- a run and the one behind it
  run_split : (at a b : ℕ) → run f at (a + b) ≡ (run f at a && run f (at + a) b)
  unfolding up_to all tab
  run_split at a zero = rw (add-zero a) (sym (and_end (run f at a)))
  run_split at a (suc b) =
      let last : at + (a + b) ≡ at + a + b = omega arith in
      ap (run f at) (add-suc a b ∙ sym (add-one (a + b))) ∙ all_step (λ (k : ℕ). f (at + k)) (λ k. k) (a + b) ∙ ap₂ ◌&&◌ (run_split at a b) (ap f last)
      ∙ and_assoc (run f at a) (run f (at + a) b) (f (at + a + b))
      ∙ ap (λ (t : Bool). run f at a && t) (sym (all_step (λ (k : ℕ). f (at + a + k)) (λ k. k) b) ∙ ap (run f (at + a)) (add-one b))

  -- the same, by equations
  run_more : (at a b o m : ℕ) → m ≡ a + b → o ≡ at + a → run f at m ≡ (run f at a && run f o b)
  run_more at a b o m e g = ap (run f at) e ∙ run_split at a b ∙ ap (λ (j : ℕ). run f at a && run f j b) (sym g)

  -- two columns of n places
  pub run_two : (at n : ℕ) → run f at (2 * n) ≡ (run f at n && run f (at + n) n)
  run_two at n = run_more at n n (at + n) (2 * n) (omega arith) refl

  -- five
  pub run_five : (at n : ℕ) → run f at (5 * n) ≡ (run f at n && run f (at + n) n && run f (at + 2 * n) n && run f (at + 3 * n) n && run f (at + 4 * n) n)
  run_five at n =
      run_more at (4 * n) n (at + 4 * n) (5 * n) (omega arith) refl
      ∙ ap (λ (t : Bool). t && run f (at + 4 * n) n)
      (run_more at (3 * n) n (at + 3 * n) (4 * n) (omega arith) refl
      ∙ ap (λ (t : Bool). t && run f (at + 3 * n) n)
      (run_more at (2 * n) n (at + 2 * n) (3 * n) (omega arith) refl ∙ ap (λ (t : Bool). t && run f (at + 2 * n) n) (run_two at n)))
