-- L5 (docs/RULES.md, R21): what a close answers, and every byte of the reader and of the result. Definitions only.
use Rattle.std.specs.Prelude.{ℕ, ◌≡◌, cond, List, eqb}
use Rattle.model.specs.Reads.{Read, refused}
use Rattle.model.specs.Refusals.{closed_refusal}
use Rattle.replies.specs.Reply.{Replied}
use Rattle.sheet_c.specs.Sheets.{sheet_reply}
use Rattle.feeding.specs.Parts.{Closing, gives, late}
use Rattle.feeding.specs.Feeding.{kept_in, standing, shut}

-- what a close is answered: 4 where there is no reader, 10 where it is closed, before anything else is looked at; else what the bytes kept are answered as a whole sheet
unfoldable pub close_reply : List ℕ → Read (List ℕ)
close_reply b = cond (eqb (standing b) 0) (sheet_reply (kept_in b)) (refused (standing b))

-- what a close with `lent` result bytes returns and leaves in them, and every byte of the reader
pub record Closed (b b' : List ℕ) (lent r : ℕ) (out : List ℕ) : Type 0 where
  pub reply : Replied (close_reply b) lent r out
  pub reader : b' ≡ shut b

-- what a close is answered, by the definition of a reader
abbrev pub reply_of : Closing (Read (List ℕ)) → Read (List ℕ)
reply_of (gives x) = x
reply_of late = refused closed_refusal
