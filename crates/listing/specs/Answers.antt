-- What a text leaves in lent bytes, and what the writer answers. Definitions only.
use Rattle.std.specs.Prelude.{ℕ, ◌≤◌, ◌≡◌, List, [], length, leb, Option, None, Some}
use Rattle.lists.specs.Lists.{pick, padded}

-- the answer: how many bytes the text has, or that the lent bytes are too few
unfoldable pub answer_for : List ℕ → ℕ → Option ℕ
answer_for text lent = pick (leb (length text) lent) (Some (length text)) None

-- what the lent bytes show: the text where it fits, never a part of it, and 0 in all other bytes
unfoldable pub shown_for : List ℕ → ℕ → List ℕ
shown_for text lent = padded lent 0 (pick (leb (length text) lent) text [])

-- the answer, and every lent byte
pub record Wrote (text : List ℕ) (lent : ℕ) (s : List ℕ) (r : Option ℕ) : Type 0 where
  pub answer : r ≡ answer_for text lent
  pub bytes : s ≡ shown_for text lent

-- what is told of a text that was to be written: the answer and every lent byte; and 65,536 bytes are always enough for it
pub record Told (text : List ℕ) (lent : ℕ) (s : List ℕ) (r : Option ℕ) : Type 0 where
  pub wrote : Wrote text lent s r
  pub enough : length text ≤ 65536
