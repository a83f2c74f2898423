-- What the C functions answer whose answer is not made of words: the number of a layout, and a text. Definitions only.
use Rattle.std.specs.Prelude.{ℕ, ◌≡◌, List, length, leb, Option, None, Some}
use Rattle.lists.specs.Lists.{pick}
use Rattle.listing.specs.Answers.{shown_for}

-- the number of the layout of images, logs, fields and results that docs/C-FUNCTIONS.md has: 4 since a particle has a velocity and a cut its edition
unfoldable pub layout_number : ℕ
layout_number = 4

-- what is answered to a text that was written: 0, or 4 where the lent bytes are too few
abbrev pub code_for : Option ℕ → ℕ
code_for None = 4
code_for (Some n) = 0

-- what a C function with `lent` bytes for a text returns and leaves in them: the text and 0 behind it, or 4 and 0 alone where it does not fit
pub record TextReplied (text : List ℕ) (lent r : ℕ) (out : List ℕ) : Type 0 where
  pub code : r ≡ pick (leb (length text) lent) 0 4
  pub bytes : out ≡ shown_for text lent
