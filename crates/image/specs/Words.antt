-- Bytes as little-endian words of 4 bytes, and words as bytes. Definitions only.
use Rattle.std.specs.Prelude.{ℕ, ◌+◌, ◌*◌, ◌/◌, ◌%◌, List, [], ◌∷◌, ◌++◌, map, length, get_or, take, drop, Float, false}
use Rattle.std.specs.Float.{inf, binary32}
use Rattle.std.specs.Float.Ieee.{of_bits, to_bits, nan_bits}
use Rattle.lists.specs.Lists.{pick, tab, each, padded}

-- word i of the bytes; bytes past the end count as 0
unfoldable pub word_at_of : List ℕ → ℕ → ℕ
word_at_of b i = get_or b (4 * i) 0 + 256 * get_or b (4 * i + 1) 0 + 65536 * get_or b (4 * i + 2) 0 + 16777216 * get_or b (4 * i + 3) 0

-- the number that a word is the bit pattern of; a NaN pattern is read as an infinity
unfoldable pub number_of : ℕ → Float
number_of w = pick (nan_bits binary32 w) (inf false) (of_bits binary32 w)

-- n words from word `at` on; and n numbers
unfoldable pub words_from : List ℕ → ℕ → ℕ → List ℕ
words_from b at n = tab n (λ k. word_at_of b (at + k))

unfoldable pub numbers_from : List ℕ → ℕ → ℕ → List Float
numbers_from b at n = tab n (λ k. number_of (word_at_of b (at + k)))

-- the four bytes of a word
abbrev pub bytes_of : ℕ → List ℕ
bytes_of w = w % 256 ∷ w / 256 % 256 ∷ w / 65536 % 256 ∷ w / 16777216 % 256 ∷ []

-- what lent bytes hold after words were written: their bytes, and 0 behind them
unfoldable pub written : ℕ → List ℕ → List ℕ
written lent ws = padded lent 0 (each bytes_of ws)

-- the bytes with the word w in the place of word i
abbrev pub put_word_of : List ℕ → ℕ → ℕ → List ℕ
put_word_of s i w = take (4 * i) s ++ (bytes_of w ++ drop (4 * i + 4) s)

-- the bytes with the words ws in the place of word `at` and of those behind it
unfoldable pub put_words : List ℕ → ℕ → List ℕ → List ℕ
put_words s at ws = take (4 * at) s ++ (each bytes_of ws ++ drop (4 * at + 4 * length ws) s)

-- the bit patterns of numbers
abbrev pub bits_in_of : List Float → List ℕ
bits_in_of l = map (to_bits binary32) l
