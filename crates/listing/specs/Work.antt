-- Text that is written piece by piece: what the workers promise each other. Only the contracts between workers need this file. Definitions only.
use Rattle.std.specs.Prelude.{ℕ, ◌<◌, ◌≤◌, ◌≡◌, List, [], ◌∷◌, ◌++◌, length, take, eqb, Option, None, Some}
use Rattle.lists.specs.Lists.{pick, padded}
use Rattle.mesh.specs.Log.{Words}
use Rattle.listing.specs.Listing.{line}
use Rattle.listing.specs.Answers.{Wrote}

-- the text so far stands at the front of s, or is too long for it
abbrev pub Holds : List ℕ → List ℕ → Option ℕ → Type 0
Holds text s None = length s < length text
Holds text s (Some n) = (n ≡ length text) × (take n s ≡ text)

-- whatever the text was, it now has `more` behind it
pub record Appends (more s : List ℕ) (at : Option ℕ) (s' : List ℕ) (r : Option ℕ) : Type 0 where
  pub appended : (text : List ℕ) → Holds text s at → Holds (text ++ more) s' r

-- from a place within s on every byte is 0, and before it the bytes are as they were
pub record Cleared (from : ℕ) (s s' : List ℕ) : Type 0 where
  pub cleared : from ≤ length s → s' ≡ padded (length s) 0 (take from s)

-- whatever the text was, the lent bytes and the answer are now those of it
pub record Finishes (s : List ℕ) (at : Option ℕ) (s' : List ℕ) (r : Option ℕ) : Type 0 where
  pub finished : (text : List ℕ) → Holds text s at → Wrote text (length s) s' r

-- what is asked for the lines of entries: the log has their words, and an entry has as many numbers as are wanted
pub record Listable (words lent count : ℕ) : Type 0 where
  pub room : words ≤ lent
  pub few : count ≤ 4

-- the line of an entry of the kind, with the first of its numbers, and nothing of another entry
unfoldable pub entry_line : List ℕ → ℕ → ℕ → Words → List ℕ
entry_line word kind count e = pick (eqb e.kind kind) (line word (take count (e.a ∷ e.b ∷ e.p ∷ e.q ∷ []))) []
