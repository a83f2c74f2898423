-- One end of a torn edge split, over the blocks. Only contracts between workers need this file. Definitions only.
use Rattle.std.specs.Prelude.{ℕ, ◌+◌, ◌/◌, ◌<◌, ◌≡◌, List, [], ◌∷◌, ◌++◌, eqb, Float, Ok}
use Rattle.lists.specs.Lists.{pick}
use Rattle.model.specs.Run.{Run, opened}
use Rattle.model.specs.Elements.{Kind}
use Rattle.model.specs.Split.{Opening, split_made}
use Rattle.model.specs.Crack.{torn}
use Rattle.mesh.specs.Log.{log_at, words_of}
use Rattle.mesh.specs.Workers.{EdgeRoom}
use Rattle.mesh.specs.declared.Counts.{Counts}
use Rattle.mesh.specs.Widths.{entry_words}
use Rattle.mesh.specs.Limits.{particle_limit}
use Rattle.work.specs.Ran.{Ran}
use Rattle.tear.specs.Tears.{Slackened, DamageRoom, Damaged}

-- an entry has room behind l for the numbers a and b, e edges stand in their blocks, and x, y and the copies in theirs
pub record TearRoom (e l x y a b before count lr le ll lg : ℕ) : Type 0 where
  pub log : l < lg / entry_words
  pub a_few : a < particle_limit
  pub b_few : b < particle_limit
  pub edges : EdgeRoom e le ll
  pub marks : DamageRoom x y before count lr

-- the torn edge is noted, its bridges are slack, its particles damaged
pub record TearDone (v before count w x y a b e l : ℕ) (roots roots' ends : List ℕ) (lengths lengths' : List Float) (log log' : List ℕ) : Type 0 where
  pub noted : log_at (l + 1) log' ≡ log_at l log ++ (words_of (opened a b) ∷ [])
  pub slackened : Slackened v before count w e ends lengths lengths'
  pub damaged : Damaged x y before count roots roots'

-- that behind a split which left the counts q; r tells of an entry more
pub record TearTold (v before count w x y a b : ℕ) (q : Counts) (roots roots' ends : List ℕ) (lengths lengths' : List Float) (log log' : List ℕ) (r : Ran) : Type 0 where
  pub counts : r ≡ Ok (record { particles = q.particles; triangles = q.triangles; edges = q.edges; boundary = q.boundary; log = q.log + 1 })
  pub done : TearDone v before count w x y a b q.edges q.log roots roots' ends lengths lengths' log log'

-- x and y are there, and w is the one that is not v; a and b are numbers of particles of the input
pub record TearAsked (v w x y a b p : ℕ) : Type 0 where
  pub a_few : a < particle_limit
  pub b_few : b < particle_limit
  pub x_in : x < p
  pub y_in : y < p
  pub other : w ≡ pick (eqb v x) y x

-- the step that splits O across the pair (x, y), and logs the torn edge (a, b) as opened
abbrev pub split_across : ℕ → ℕ → ℕ → ℕ → Kind → Opening → Run → Run
split_across a b x y K O = split_made (opened a b ∷ []) (torn O (x, y)) K O
