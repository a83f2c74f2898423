-- The fields of a sheet as words, as docs/C-FUNCTIONS.md has them: the three counts, then the columns of particles, triangles and edges, then the blade; no boundary. Definitions only.
use Rattle.std.specs.Prelude.{ℕ, ◌+◌, ◌*◌, ◌/◌, ◌≡◌, Bool, ◌&&◌, List, length, eqb, leb, ℤ}
use Rattle.std.proofs.Math.IntN.{sub_ℕ}
use Rattle.lists.specs.Lists.{pick, tab, padded}
use Rattle.bits.specs.Bits.{bits_of}
use Rattle.image.specs.Words.{word_at_of, words_from}
use Rattle.sheet.specs.Sheet.{sheet_from}
use Rattle.sheet_writing.specs.Writing.{Handed, columns_from, answer_of, put_of}

-- the whole number that a word is in two's complement; and n of them from word `at` on
unfoldable pub signed_of : ℕ → ℤ
signed_of w = sub_ℕ w (w / 2147483648 * 4294967296)

unfoldable pub signed_from : List ℕ → ℕ → ℕ → List ℤ
signed_from s at n = tab n (λ k. signed_of (word_at_of s (at + k)))

-- how many words the fields of so many particles, triangles and edges have
abbrev pub field_words : ℕ → ℕ → ℕ → ℕ
field_words p t e = 7 + 3 * p + 3 * t + 3 * e

-- the counts are there, and the bytes are as many as they say
unfoldable pub fields_fit_of : List ℕ → Bool
fields_fit_of s = leb 12 (length s) && eqb (length s) (4 * field_words (word_at_of s 0) (word_at_of s 1) (word_at_of s 2))

-- the columns of t triangles and e edges behind those of p particles, beside columns of particles and a blade
abbrev pub besides : List ℕ → ℕ → ℕ → ℕ → List ℤ → List ℤ → List ℕ → List ℤ → Handed
besides s p t e x y pinned blade = record {
  x = x;
  y = y;
  pinned = pinned;
  t0 = words_from s (3 + 3 * p) t;
  t1 = words_from s (3 + 3 * p + t) t;
  t2 = words_from s (3 + 3 * p + 2 * t) t;
  e0 = words_from s (3 + 3 * p + 3 * t) e;
  e1 = words_from s (3 + 3 * p + 3 * t + e) e;
  structural = words_from s (3 + 3 * p + 3 * t + 2 * e) e;
  blade = blade;
}

-- all columns of so many
abbrev pub handed_with : List ℕ → ℕ → ℕ → ℕ → Handed
handed_with s p t e =
    besides s p t e (signed_from s 3 p) (signed_from s (3 + p) p) (words_from s (3 + 2 * p) p) (signed_from s (3 + 3 * p + 3 * t + 3 * e) 4)

-- the fields that bytes are
unfoldable pub handed_in : List ℕ → Handed
handed_in s = handed_with s (word_at_of s 0) (word_at_of s 1) (word_at_of s 2)

-- what a writer of them answers with so many bytes lent: 1 for bytes that are not as many as the counts say, else as a writer of sheets does
unfoldable pub write_answer : List ℕ → ℕ → ℕ
write_answer s lent = pick (fields_fit_of s) (answer_of (columns_from (handed_in s)) lent) 1

-- the answer, and the bits of every lent byte: the sheet's in the second edition and 0 behind them, or 0 alone
pub record SheetWritten (s before after : List ℕ) (r : ℕ) : Type 0 where
  pub answer : r ≡ write_answer s (length before)
  pub bits : bits_of after ≡ padded (8 * length before) 0 (put_of r (sheet_from (columns_from (handed_in s))))
