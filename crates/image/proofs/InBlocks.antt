-- Words of the bytes and their places in a block of an image. Assumes nothing.
use Prim.Native.Nat.{ℕ, ◌+◌, ◌<◌}
use mathlib.Core.Path.{◌≡◌, sym, ◌∙◌, ap}
use mathlib.Core.List.{List}
use lib.ListN.{length, get_or}
use lib.Ieee.{nan}
use Rattle.lists.proofs.Stores.{tab_length, tab_at}
use Rattle.image.specs.Words.{word_at_of, number_of, words_from, numbers_from}

-- a block has as many places as it has words
pub words_long : (s : List ℕ) (at n : ℕ) → length (words_from s at n) ≡ n
unfolding words_from
words_long s at n = tab_length n (λ k. word_at_of s (at + k))

pub numbers_long : (s : List ℕ) (at n : ℕ) → length (numbers_from s at n) ≡ n
unfolding numbers_from
numbers_long s at n = tab_length n (λ k. number_of (word_at_of s (at + k)))

-- a word is what stands at its place in a block of words, and its number in one of numbers
pub word_in : (s : List ℕ) (at n k j : ℕ) → k < n → j ≡ at + k → word_at_of s j ≡ get_or (words_from s at n) k 0
unfolding words_from
word_in s at n k j h e = ap (word_at_of s) e ∙ sym (tab_at n (λ i. word_at_of s (at + i)) k 0 h)

pub number_in : (s : List ℕ) (at n k j : ℕ) → k < n → j ≡ at + k → number_of (word_at_of s j) ≡ get_or (numbers_from s at n) k nan
unfolding numbers_from
number_in s at n k j h e = ap (λ (i : ℕ). number_of (word_at_of s i)) e ∙ sym (tab_at n (λ i. number_of (word_at_of s (at + i))) k nan h)
