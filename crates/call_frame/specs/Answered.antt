-- What a call that gives a mesh answers, and what it leaves in every lent place, from the outcome that the model gives. Definitions only.
use Rattle.std.specs.Prelude.{ℕ, ◌*◌, ◌/◌, min, ◌≡◌, List, [], length, take, Float, Result, Ok, Err}
use Rattle.model.specs.Mesh.{Mesh}
use Rattle.model.specs.Run.{Entry}
use Rattle.model.specs.Calls.{Outcome, refused, done}
use Rattle.model.specs.Reads.{Read, value}
use Rattle.model.specs.Reads.{refused as turned_down}
use Rattle.mesh.specs.Log.{World, world_of}
use Rattle.mesh.specs.Given.{Lent}
use Rattle.mesh.specs.Filled.{Filled}
use Rattle.mesh.specs.declared.Counts.{Counts}
use Rattle.mesh.specs.Widths.{entry_words}
use Rattle.call_frame.specs.declared.Answer.{Answer}
use Rattle.mesh.specs.declared.refusals.Refusal.{Refusal}
use Rattle.mesh.specs.Refused.{answer_in}

-- no mesh and no log
abbrev pub nothing : World
nothing = record { mesh = record { particles = []; triangles = []; edges = []; boundary = [] }; log = [] }

-- what is shown of an outcome: of a refusal, nothing
abbrev pub shown : Outcome → World
shown (refused n) = nothing
shown (done M l c) = world_of M l

-- how many rows each list of a mesh has, and its log
abbrev pub counts_of : Mesh → List Entry → Counts
counts_of M l = record { particles = length M.particles; triangles = length M.triangles; edges = length M.edges; boundary = length M.boundary; log = length l }

-- the refusal number; or the counts, and whether anything was split or inserted
abbrev pub answer_of : Outcome → Read Answer
answer_of (refused n) = turned_down n
answer_of (done M l c) = value (record { counts = counts_of M l; changed = c })

-- the answer, and every lent place: the mesh and the log at the fronts, 0 behind them; all 0 after a refusal
pub record Answered (o : Outcome) (L : Lent) (a : Result Answer Refusal) (p : List Float) (r c : List ℕ) (v : List Float) (e : List ℕ) (l : List Float) (b g : List ℕ) : Type 0 where
  pub answer : answer_in a ≡ answer_of o
  pub blocks : Filled (shown o) L p r c v e l b g

-- the log handed back: the words of its first n entries, or of as many as it has
abbrev pub front_of : ℕ → List ℕ → List ℕ
front_of n log = take (6 * min n (length log / entry_words)) log
