-- What mending leaves in lent bytes, and what it answers. Definitions only.
use Rattle.std.specs.Prelude.{ℕ, ◌*◌, ◌≡◌, Bool, false, ◌&&◌, List, [], length, leb, Result, Ok, Err}
use Rattle.lists.specs.Lists.{pick, padded}
use Rattle.bits.specs.Bits.{bits_of}
use Rattle.mending.specs.Sheets.{Mending, mended, refused, mend_of}
use Rattle.mender.specs.declared.Mended.{Mended}
use Rattle.mender.specs.declared.MendError.{MendError}
use Rattle.mender.specs.declared.MendError.TheVariants.{Short, Refused}

-- the mended bytes and the text have room in a and b lent bytes
unfoldable pub fits : Mending → ℕ → ℕ → Bool
fits (mended m t) a b = leb (length m) a && leb (length t) b
fits (refused n) a b = false

-- the answer to bytes that are mended
abbrev pub mended_with : ℕ → ℕ → Result Mended MendError
mended_with n k = Ok (record { sheet = n; text = k })

-- the answer: how many bytes the mended sheet and the text have, or that the lent bytes are too few for either, or the refusal
unfoldable pub answer_for : Mending → ℕ → ℕ → Result Mended MendError
answer_for (mended m t) a b = pick (leb (length m) a && leb (length t) b) (mended_with (length m) (length t)) (Err Short)
answer_for (refused n) a b = Err (Refused n)

-- the mended bytes, and the text; a refusal has none
unfoldable pub bytes_of : Mending → List ℕ
bytes_of (mended m t) = m
bytes_of (refused n) = []

unfoldable pub text_of : Mending → List ℕ
text_of (mended m t) = t
text_of (refused n) = []

-- the answer to bytes s, the bits of every byte lent for the sheet, and every byte lent for the text: both whole, with 0 behind them, or 0 alone
pub record MendDone (s : List ℕ) (a b : ℕ) (out said : List ℕ) (r : Result Mended MendError) : Type 0 where
  pub answer : r ≡ answer_for (mend_of s) a b
  pub bits : bits_of out ≡ padded (8 * a) 0 (bits_of (pick (fits (mend_of s) a b) (bytes_of (mend_of s)) []))
  pub text : said ≡ padded b 0 (pick (fits (mend_of s) a b) (text_of (mend_of s)) [])
