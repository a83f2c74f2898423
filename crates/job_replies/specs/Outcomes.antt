-- What a C function that gives a mesh returns for an outcome, as docs/C-FUNCTIONS.md has it: the words of the answer and of the log, and the rooms. Definitions only.
use Rattle.std.specs.Prelude.{ℕ, Bool, false, List, [], ◌∷◌, map, length, eqb}
use Rattle.lists.specs.Lists.{pick}
use Rattle.model.specs.Calls.{Outcome, done, refusal}
use Rattle.model.specs.Calls.{refused as turned_down}
use Rattle.model.specs.Reads.{Read, refused, value}
use Rattle.mesh.specs.Given.{mesh_of}
use Rattle.mesh.specs.Log.{words_of, words_in}
use Rattle.image.specs.Image.{image_of, image_sized_of, image_words_of}
use Rattle.mesh_replies.specs.Both.{BothReplied}

-- ---- the words of an outcome

-- 1 or 0 for whether anything was split or inserted, the number of log entries, then the image of the mesh
abbrev pub mesh_reply : Outcome → Read (List ℕ)
mesh_reply (turned_down n) = refused n
mesh_reply (done M l c) = value (pick c 1 0 ∷ length l ∷ image_words_of M)

-- the words of the log, six an entry
abbrev pub log_reply : Outcome → List ℕ
log_reply (turned_down n) = []
log_reply (done M l c) = words_in (map words_of l)

-- ---- the reply

-- what a C function with `lent` result bytes and `logged` log bytes returns, and leaves in both, for an outcome
abbrev pub OutcomeReplied : Outcome → ℕ → ℕ → ℕ → List ℕ → List ℕ → Type 0
OutcomeReplied o lent logged r out log = BothReplied (mesh_reply o) (log_reply o) lent logged r out log

-- the outcome o of a call on an image, beside numbers that are right or not; rooms that are no four words are a bad argument
unfoldable pub with_rooms : List ℕ → List ℕ → Bool → Outcome → Outcome
with_rooms s rooms numbers o = pick (eqb (length rooms) 16) o (turned_down (refusal (image_sized_of s) (mesh_of (image_of s)) numbers false))
