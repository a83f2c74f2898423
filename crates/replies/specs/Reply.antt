-- The reply of a C function, as docs/C-FUNCTIONS.md has it: the number of a refusal, and the words of an answer in the lent bytes. Definitions only.
use Rattle.std.specs.Prelude.{ℕ, ◌*◌, ◌≡◌, List, [], length, leb}
use Rattle.lists.specs.Lists.{pick}
use Rattle.model.specs.Reads.{Read, refused, value}
use Rattle.model.specs.Refusals.{argument_refusal}
use Rattle.image.specs.Words.{written}

-- result bytes too few for the words: 4
abbrev pub lent_enough : ℕ → Read (List ℕ) → Read (List ℕ)
lent_enough lent (refused n) = refused n
lent_enough lent (value ws) = pick (leb (4 * length ws) lent) (value ws) (refused argument_refusal)

-- the number of the refusal, or 0; and the words that the lent bytes show
abbrev pub code_of : Read (List ℕ) → ℕ
code_of (refused n) = n
code_of (value ws) = 0

abbrev pub shown_of : Read (List ℕ) → List ℕ
shown_of (refused n) = []
shown_of (value ws) = ws

-- what a C function with `lent` result bytes returns and leaves in them
pub record Replied (o : Read (List ℕ)) (lent r : ℕ) (out : List ℕ) : Type 0 where
  pub code : r ≡ code_of (lent_enough lent o)
  pub bytes : out ≡ written lent (shown_of (lent_enough lent o))
