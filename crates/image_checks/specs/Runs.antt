-- What the test of a run of words tells. Only contracts between these functions need this file. Definitions only.
use Rattle.std.specs.Prelude.{ℕ, ◌+◌, Bool, List, [], ◌∷◌, Float}
use Rattle.lists.specs.Lists.{all, up_to}
use Rattle.model.specs.Valid.{named}
use Rattle.image.specs.Words.{word_at_of, number_of}

-- p holds of the n words from word `at` on
abbrev pub words_ok : (ℕ → Bool) → List ℕ → ℕ → ℕ → Bool
words_ok p s at n = all (λ (k : ℕ). p (word_at_of s (at + k))) (up_to n)

-- p holds of the n numbers from word `at` on
abbrev pub numbers_ok : (Float → Bool) → List ℕ → ℕ → ℕ → Bool
numbers_ok p s at n = all (λ (k : ℕ). p (number_of (word_at_of s (at + k)))) (up_to n)

-- the ends in each of t rows from word `at` on, a column of t words behind another, name two different ones of n particles
abbrev pub pairs_ok : ℕ → List ℕ → ℕ → ℕ → Bool
pairs_ok n s at t = all (λ (k : ℕ). named n (word_at_of s (at + k) ∷ word_at_of s (at + t + k) ∷ [])) (up_to t)

-- the corners in each of t rows from word `at` on, three columns of t words, name three different ones of n particles
abbrev pub threes_ok : ℕ → List ℕ → ℕ → ℕ → Bool
threes_ok n s at t = all (λ (k : ℕ). named n (word_at_of s (at + k) ∷ word_at_of s (at + t + k) ∷ word_at_of s (at + t + t + k) ∷ [])) (up_to t)
