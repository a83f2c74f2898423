-- What the workers ask and promise. Only contracts between workers need this file. Definitions only.
use Rattle.std.specs.Prelude.{ℕ, ◌≤◌, ◌<◌, ◌≡◌, List, ◌∷◌, length, take, Result, Ok, Err}
use Rattle.model.specs.Reads.{Read, refused, value}
use Rattle.mesh.specs.Given.{Given, mesh_of}
use Rattle.mesh.specs.Refused.{number_of, answer_in}
use Rattle.mesh.specs.declared.refusals.Refusal.{Refusal}
use Rattle.replies.specs.Reply.{shown_of}
use Rattle.fan_c.specs.Fans.{fan_numbers}

-- r numbers at the front of a table are those of v's fan
pub record Listed (G : Given) (v r : ℕ) (table : List ℕ) : Type 0 where
  pub few : r ≤ 2048
  pub front : take r table ≡ fan_numbers (mesh_of G) v
  pub count : r ≡ length (fan_numbers (mesh_of G) v)

-- how many numbers a call answers, or the number of its refusal
abbrev pub found_of : Read (List ℕ) → Read ℕ
found_of (refused n) = refused n
found_of (value ns) = value (length ns)

-- the answer, and the numbers at the front of the table that was lent for them
pub record Answered (o : Read (List ℕ)) (r : Result ℕ Refusal) (table : List ℕ) : Type 0 where
  pub answer : answer_in r ≡ found_of o
  pub front : take (length (shown_of o)) table ≡ shown_of o
  pub few : length (shown_of o) ≤ 2048

-- the number of a refusal fits a byte, and the numbers stand in a table of so many places
abbrev pub Tellable : Result ℕ Refusal → ℕ → Type 0
Tellable (Err e) places = number_of e < 256
Tellable (Ok n) places = (n ≤ places) × (n ≤ 2048)

-- the words of an answer, whose numbers are the first of a table
abbrev pub found_words : Result ℕ Refusal → List ℕ → Read (List ℕ)
found_words (Err e) table = refused (number_of e)
found_words (Ok n) table = value (n ∷ take n table)
