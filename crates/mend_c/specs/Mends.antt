-- What mending through C returns, and every lent byte. Definitions only.
use Rattle.std.specs.Prelude.{ℕ, ◌*◌, ◌≡◌, Bool, ◌&&◌, List, [], ◌∷◌, length, leb}
use Rattle.lists.specs.Lists.{pick, padded}
use Rattle.bits.specs.Bits.{bits_of}
use Rattle.image.specs.Words.{written}
use Rattle.mesh.specs.Refused.{number_of}
use Rattle.mending.specs.Sheets.{Mending, mended, refused, mend_of}
use Rattle.mender.specs.Answers.{fits, bytes_of, text_of}

-- the mended bytes, the text and two words have room in a, b and c lent bytes
abbrev pub all_fit : Mending → ℕ → ℕ → ℕ → Bool
all_fit M a b c = fits M a b && leb 8 c

-- the number of the refusal, 4 where lent bytes are too few, else 0
unfoldable pub code_for : Mending → ℕ → ℕ → ℕ → ℕ
code_for (refused e) a b c = number_of e
code_for (mended m t) a b c = pick (all_fit (mended m t) a b c) 0 4

-- the mended sheet (the bits of every byte), the text and the two numbers of bytes, with 0 behind each; or 0 alone
pub record MendReplied (s : List ℕ) (a b c r : ℕ) (out said counts : List ℕ) : Type 0 where
  pub code : r ≡ code_for (mend_of s) a b c
  pub bits : bits_of out ≡ padded (8 * a) 0 (bits_of (pick (all_fit (mend_of s) a b c) (bytes_of (mend_of s)) []))
  pub text : said ≡ padded b 0 (pick (all_fit (mend_of s) a b c) (text_of (mend_of s)) [])
  pub words : counts ≡ written c (pick (all_fit (mend_of s) a b c) (length (bytes_of (mend_of s)) ∷ length (text_of (mend_of s)) ∷ []) [])
