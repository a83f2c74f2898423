-- The reply to a call that gives a mesh, by what it came to and left in its blocks. Only the contracts between the functions need this file. Definitions only.
use Rattle.std.specs.Prelude.{ℕ, ◌+◌, ◌*◌, ◌/◌, ◌≤◌, ◌<◌, Bool, List, [], ◌∷◌, length, take, Float, Result, Ok, Err}
use Rattle.lists.specs.Lists.{pick}
use Rattle.lists.specs.LeftOut.{Rising}
use Rattle.model.specs.Reads.{Read, refused, value}
use Rattle.mesh.specs.Log.{log_at}
use Rattle.mesh.specs.declared.Counts.{Counts}
use Rattle.mesh.specs.Widths.{point_columns, corner_columns, end_columns, length_columns, root_columns, volume_columns, side_columns}
use Rattle.mesh.specs.Limits.{particle_limit, triangle_limit, edge_limit, boundary_limit}
use Rattle.work.specs.Ran.{Ran}
use Rattle.call_frame.specs.Framed.{words_change}
use Rattle.edge_drops.specs.Parted.{listed}
use Rattle.image_writing.specs.Stores.{left_words}
use Rattle.mesh.specs.Refused.{number_of}

-- the numbers of the listed edges
abbrev pub listed_edges : List ℕ → List ℕ
listed_edges gone = take (listed gone) gone

-- the words of an answer whose rows are the first of seven blocks without the edges at the listed places
abbrev pub done_words : Counts → Bool → List ℕ → List Float → List ℕ → List ℕ → List Float → List ℕ → List Float → List ℕ → List ℕ
done_words k b is p r c v e l o = pick b 1 0 ∷ k.log ∷ left_words k is p r c v e l o

-- what is told of what a call came to, whose log is the first words of g, where `told` tells a refusal's number
abbrev pub mesh_told_by : {E : Type 0} → (E → ℕ) → Result Counts E → List ℕ → List Float → List ℕ → List ℕ → List Float → List ℕ → List Float → List ℕ → List ℕ → Read (List ℕ)
mesh_told_by told (Err d) gone p r c v e l o g = refused (told d)
mesh_told_by told (Ok k) gone p r c v e l o g = value (done_words k (words_change (log_at k.log g)) (listed_edges gone) p r c v e l o)

-- the same of a worker, whose refusal is a `Refusal`
abbrev pub mesh_told : Ran → List ℕ → List Float → List ℕ → List ℕ → List Float → List ℕ → List Float → List ℕ → List ℕ → Read (List ℕ)
mesh_told = mesh_told_by number_of

-- the words of its log
abbrev pub log_told : {E : Type 0} → Result Counts E → List ℕ → List ℕ
log_told (Err d) g = []
log_told (Ok k) g = take (6 * k.log) g

-- the rows and the listed edges stand in blocks that are no longer than those of a mesh, the listed edges rise, and the log stands in its words and in its bytes
pub record Tellable (k : Counts) (gone : List ℕ) (lp lr lc lv le ll lo lg logged : ℕ) : Type 0 where
  pub points : k.particles ≤ lp / point_columns
  pub roots : k.particles ≤ lr / root_columns
  pub corners : k.triangles ≤ lc / corner_columns
  pub volumes : k.triangles ≤ lv / volume_columns
  pub ends : k.edges + listed gone ≤ le / end_columns
  pub lengths : k.edges + listed gone ≤ ll / length_columns
  pub outline : k.boundary ≤ lo / side_columns
  pub list : 2049 ≤ length gone
  pub rising : Rising gone (listed gone) (k.edges + listed gone)
  pub few_particles : k.particles ≤ particle_limit
  pub few_triangles : k.triangles ≤ triangle_limit
  pub few_edges : k.edges + listed gone ≤ edge_limit
  pub few_boundary : k.boundary ≤ boundary_limit
  pub words : 6 * k.log ≤ lg
  pub entries : 24 * k.log ≤ logged

-- the same of what a call came to; or the number of a refusal, which `told` tells, is small
abbrev pub TellingBy : {E : Type 0} → (E → ℕ) → Result Counts E → List ℕ → ℕ → ℕ → ℕ → ℕ → ℕ → ℕ → ℕ → ℕ → ℕ → Type 0
TellingBy told (Err d) gone lp lr lc lv le ll lo lg logged = told d < 256
TellingBy told (Ok k) gone lp lr lc lv le ll lo lg logged = Tellable k gone lp lr lc lv le ll lo lg logged

-- the same of a worker
abbrev pub Telling : Ran → List ℕ → ℕ → ℕ → ℕ → ℕ → ℕ → ℕ → ℕ → ℕ → ℕ → Type 0
Telling = TellingBy number_of
