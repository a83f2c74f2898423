-- Tables that a loop fills from words, a row a turn: a word is what stands in the block of an image. Assumes nothing.
use Prim.Native.Nat.{ℕ, ◌+◌, ◌*◌, ◌/◌, ◌<◌, ◌≤◌}
use native.Mathlib.Omega.{arith}
use mathlib.Core.Path.{◌≡◌, sym, ◌∙◌, ap}
use mathlib.Core.List.{List}
use lib.ListN.{length, get_or, set}
use lib.Ieee.{Float, nan}
use Rattle.float.specs.Numbers.{abs_of}
use Rattle.image.specs.Words.{word_at_of, number_of, words_from, numbers_from}
use Rattle.image.proofs.InBlocks.{words_long, numbers_long, word_in, number_in}
use Rattle.elements.proofs.Filling.{Triangling, triangling_more, Strapping, strapping_skip, strapping_take}

-- ---- t triangles from word `at` on

module _ (s : List ℕ) (at t : ℕ) where
  abbrev pub TriangleRows : ℕ → ℕ → List ℕ → List ℕ → List Float → List ℕ → List ℕ → List Float → Type 0
  TriangleRows i o N₀ K₀ M₀ N K M = Triangling (words_from s at (3 * t)) (numbers_from s (at + 3 * t) (2 * t)) i o N₀ K₀ M₀ N K M

  module _ (i o : ℕ) (N₀ K₀ : List ℕ) (M₀ : List Float) (N K : List ℕ) (M : List Float) where
    pub triangle_row : (a b c : ℕ) (x y : Float) → TriangleRows i o N₀ K₀ M₀ N K M → i < t → i < length N → i < length M → o + 3 ≤ length K
        → a ≡ word_at_of s (at + i) → b ≡ word_at_of s (at + t + i) → c ≡ word_at_of s (at + 2 * t + i) → y ≡ number_of (word_at_of s (at + 3 * t + i)) → x ≡ abs_of y
        → TriangleRows (i + 1) (o + 3) N₀ K₀ M₀ (set N i i) (set (set (set K o a) (o + 1) b) (o + 2) c) (set M i x)
    triangle_row a b c x y F h hn hm hk ea eb ec ey ex =
        let C : List ℕ = words_from s at (3 * t) in
        let l : length C ≡ 3 * t = words_long s at (3 * t) in
        let fa : a ≡ get_or C i 0 = ea ∙ word_in s at (3 * t) i (at + i) (omega arith) (omega arith) in
        let fb : b ≡ get_or C (length C / 3 + i) 0 = eb ∙ word_in s at (3 * t) (length C / 3 + i) (at + t + i) (omega arith) (omega arith) in
        let fc : c ≡ get_or C (2 * (length C / 3) + i) 0 = ec ∙ word_in s at (3 * t) (2 * (length C / 3) + i) (at + 2 * t + i) (omega arith) (omega arith) in
        let fy : x ≡ abs_of (get_or (numbers_from s (at + 3 * t) (2 * t)) i nan) = ex ∙ ap abs_of (ey ∙ number_in s (at + 3 * t) (2 * t) i (at + 3 * t + i) (omega arith) (omega arith)) in
        rw (fa, fb, fc) (triangling_more C (numbers_from s (at + 3 * t) (2 * t)) i o N₀ K₀ M₀ N K M x F hn hm hk fy)

-- ---- e edges from word `at` on

module _ (s : List ℕ) (at e : ℕ) where
  abbrev pub StrapRows : ℕ → ℕ → ℕ → List ℕ → List ℕ → List Float → List ℕ → List ℕ → List Float → Type 0
  StrapRows i n o N₀ K₀ M₀ N K M = Strapping (words_from s at (4 * e)) (numbers_from s (at + 4 * e) (4 * e)) i n o N₀ K₀ M₀ N K M

  module _ (i n o : ℕ) (N₀ K₀ : List ℕ) (M₀ : List Float) (N K : List ℕ) (M : List Float) (F : StrapRows i n o N₀ K₀ M₀ N K M) (h : i < e) (f : ℕ) (ef : f ≡ word_at_of s (at + 2 * e + i)) where
    flag_there : f ≡ get_or (words_from s at (4 * e)) (2 * (length (words_from s at (4 * e)) / 4) + i) 0
    flag_there =
        let l = words_long s at (4 * e) in
        ef ∙ word_in s at (4 * e) (2 * (length (words_from s at (4 * e)) / 4) + i) (at + 2 * e + i) (omega arith) (omega arith)

    pub strap_skipped : (f ≡ 1 → ⊥) → StrapRows (i + 1) n o N₀ K₀ M₀ N K M
    strap_skipped no_strap = strapping_skip (words_from s at (4 * e)) (numbers_from s (at + 4 * e) (4 * e)) i n o N₀ K₀ M₀ N K M F (λ q. no_strap (flag_there ∙ q))

    pub strap_row : (a b : ℕ) (x : Float) → f ≡ 1 → n < length N → n < length M → o + 2 ≤ length K
        → a ≡ word_at_of s (at + i) → b ≡ word_at_of s (at + e + i) → x ≡ number_of (word_at_of s (at + 5 * e + i))
        → StrapRows (i + 1) (n + 1) (o + 2) N₀ K₀ M₀ (set N n i) (set (set K o a) (o + 1) b) (set M n x)
    strap_row a b x g hn hm hk ea eb ex =
        let E : List ℕ = words_from s at (4 * e) in
        let L : List Float = numbers_from s (at + 4 * e) (4 * e) in
        let l : length E ≡ 4 * e = words_long s at (4 * e) in
        let m : length L ≡ 4 * e = numbers_long s (at + 4 * e) (4 * e) in
        let fa : a ≡ get_or E i 0 = ea ∙ word_in s at (4 * e) i (at + i) (omega arith) (omega arith) in
        let fb : b ≡ get_or E (length E / 4 + i) 0 = eb ∙ word_in s at (4 * e) (length E / 4 + i) (at + e + i) (omega arith) (omega arith) in
        let fx : x ≡ get_or L (length L / 4 + i) nan = ex ∙ number_in s (at + 4 * e) (4 * e) (length L / 4 + i) (at + 5 * e + i) (omega arith) (omega arith) in
        rw (fa, fb, fx) (strapping_take E L i n o N₀ K₀ M₀ N K M F (sym flag_there ∙ g) hn hm hk)
