-- A history of a mesh of triangles as a host of the C functions sees it: images, what the contracts say of the bytes that come back, and the host at work between the calls. Definitions only.
use Rattle.std.specs.Prelude.{ℕ, ◌*◌, ◌≡◌, List, [], ◌++◌, take, drop}
use Rattle.model.specs.Mesh.{Mesh}
use Rattle.model.specs.Calls.{Outcome}
use Rattle.mesh.specs.Given.{mesh_of}
use Rattle.image.specs.Words.{word_at_of}
use Rattle.image.specs.Image.{image_words, image_of}
use Rattle.lineage.specs.History.{Begins, Moved}
use Rattle.job_replies.specs.Outcomes.{OutcomeReplied}
use Rattle.bench_c.specs.Torn.{cut_outcome, crack_outcome, split_outcome, straddlers_outcome}

-- the image in the result bytes: it stands behind two words, and is as long as its counts say
unfoldable pub image_in : List ℕ → List ℕ
image_in out = take (4 * image_words (word_at_of out 2) (word_at_of out 3) (word_at_of out 4) (word_at_of out 5)) (drop 8 out)

-- the log's bytes up to the number of entries that is told in the second word, 24 bytes each
unfoldable pub entries_in : List ℕ → List ℕ → List ℕ
entries_in out log = take (24 * word_at_of out 1) log

-- what a C function that gives a mesh may be asked of the image s, with so many log bytes
pub data Asked (s : List ℕ) (logged : ℕ) : Outcome → Type 0 where
  cuts : (blade : List ℕ) (n f : ℕ) (rooms : List ℕ) → Asked s logged (cut_outcome s blade n f rooms logged)
  cracks : (torn : List ℕ) (min : ℕ) (rooms : List ℕ) → Asked s logged (crack_outcome s torn min rooms logged)
  splits : (v : ℕ) (sides rooms : List ℕ) → Asked s logged (split_outcome s v sides rooms logged)
  straddlers : (rooms : List ℕ) → Asked s logged (straddlers_outcome s rooms logged)

-- a C function was asked of the image s, returned 0, and left these result bytes and these log bytes
pub record Replying (s out log : List ℕ) : Type 0 where
  pub lent : ℕ
  pub logged : ℕ
  pub outcome : Outcome
  pub asked : Asked s logged outcome
  pub replied : OutcomeReplied outcome lent logged 0 out log

-- The mesh M₀, handed to the C functions again and again, is now this mesh, and the entries of the logs, one behind the other, are these bytes.
-- A call is handed any image that is the mesh as it is; between the calls the host may move it.
pub data Images (M₀ : Mesh) : Mesh → List ℕ → Type 0 where
  first : Begins M₀ → Images M₀ M₀ []
  calling : {M : Mesh} {bytes : List ℕ} (s out log : List ℕ) → Images M₀ M bytes → mesh_of (image_of s) ≡ M → Replying s out log → Images M₀ (mesh_of (image_of (image_in out))) (bytes ++ entries_in out log)
  moving : {M M' : Mesh} {bytes : List ℕ} → Images M₀ M bytes → Moved M M' → Images M₀ M' bytes
