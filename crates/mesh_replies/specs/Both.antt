-- What a C function that gives a mesh returns, and leaves in the bytes of the answer and of the log. Definitions only.
use Rattle.std.specs.Prelude.{ℕ, ◌≡◌, List, []}
use Rattle.model.specs.Reads.{Read, refused, value}
use Rattle.image.specs.Words.{written}
use Rattle.reading_replies.specs.Replies.{lent_enough, code_of, shown_of}

-- the words that the log's bytes show beside an answer: none beside a refusal
abbrev pub beside : Read (List ℕ) → List ℕ → List ℕ
beside (refused n) ws = []
beside (value vs) ws = ws

-- what a C function with `lent` result bytes and `logged` log bytes returns, and leaves in both
pub record BothReplied (o : Read (List ℕ)) (ws : List ℕ) (lent logged r : ℕ) (out log : List ℕ) : Type 0 where
  pub code : r ≡ code_of (lent_enough lent o)
  pub bytes : out ≡ written lent (shown_of (lent_enough lent o))
  pub entries : log ≡ written logged (beside (lent_enough lent o) ws)
