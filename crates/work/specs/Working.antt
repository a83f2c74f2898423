-- A call at work in lent blocks: the rooms, the counts, and what a worker promises of the run that the blocks hold. Definitions only.
use Rattle.std.specs.Prelude.{ℕ, ◌/◌, ◌<◌, ◌≤◌, ◌≡◌, true, List, map, Float, Ok, Err}
use Rattle.model.specs.Mesh.{Mesh}
use Rattle.model.specs.Valid.{indices_fit_of}
use Rattle.model.specs.Run.{Run, Entry}
use Rattle.model.specs.Calls.{first_fault}
use Rattle.mesh.specs.Log.{World, world_of, words_of, log_at}
use Rattle.mesh.specs.Given.{Lent, as_rooms}
use Rattle.mesh.specs.declared.Counts.{Counts}
use Rattle.mesh.specs.declared.Rooms.{Rooms}
use Rattle.mesh.specs.Widths.{point_columns, corner_columns, end_columns, length_columns, root_columns, volume_columns, side_columns, entry_words}
use Rattle.mesh.specs.Limits.{particle_limit, triangle_limit, edge_limit, boundary_limit, entry_limit}
use Rattle.work.specs.Ran.{Ran}
use Rattle.mesh.specs.Refused.{number_of}

-- the counts are within the rooms
pub record Within (k : Counts) (L : Rooms) : Type 0 where
  pub particles : k.particles ≤ L.particles
  pub triangles : k.triangles ≤ L.triangles
  pub edges : k.edges ≤ L.edges
  pub boundary : k.boundary ≤ L.boundary
  pub log : k.log ≤ L.log

-- the rooms are within the limits, and within the lent columns
pub record Roomed (L : Rooms) (I : Lent) : Type 0 where
  pub few_particles : L.particles ≤ particle_limit
  pub few_triangles : L.triangles ≤ triangle_limit
  pub few_edges : L.edges ≤ edge_limit
  pub few_boundary : L.boundary ≤ boundary_limit
  pub few_log : L.log ≤ entry_limit
  pub points : L.particles ≤ I.points / point_columns
  pub roots : L.particles ≤ I.roots / root_columns
  pub corners : L.triangles ≤ I.corners / corner_columns
  pub volumes : L.triangles ≤ I.volumes / volume_columns
  pub ends : L.edges ≤ I.ends / end_columns
  pub lengths : L.edges ≤ I.lengths / length_columns
  pub outline : L.boundary ≤ I.outline / side_columns
  pub log : L.log ≤ I.log / entry_words

-- the lent blocks hold a mesh whose indices fit, within the rooms
pub record Ready (L : Rooms) (k : Counts) (I : Lent) (M : Mesh) : Type 0 where
  pub rooms : Roomed L I
  pub counts : Within k L
  pub indices : indices_fit_of M ≡ true

-- what parts 4 to 6 and the removal of straddlers ask of the counts, the rooms and the lengths of the blocks
pub record SettleRoom (L : Rooms) (k : Counts) (lc lv le ll lo lg : ℕ) : Type 0 where
  pub counts : Within k L
  pub few_particles : L.particles ≤ particle_limit
  pub few_triangles : L.triangles ≤ triangle_limit
  pub few_edges : L.edges ≤ edge_limit
  pub few_boundary : L.boundary ≤ boundary_limit
  pub few_log : L.log ≤ entry_limit
  pub corners : L.triangles ≤ lc / corner_columns
  pub volumes : L.triangles ≤ lv / volume_columns
  pub ends : L.edges ≤ le / end_columns
  pub lengths : L.edges ≤ ll / length_columns
  pub outline : L.boundary ≤ lo / side_columns
  pub log : L.log ≤ lg / entry_words

-- the words of the first l entries are those of a log
pub record Logged (l : ℕ) (log : List ℕ) : Type 0 where
  pub entries : List Entry
  pub words : log_at l log ≡ map words_of entries

-- what a worker that was to bring the run to S tells: the first room that lacks; or the blocks hold S
abbrev pub Went : Rooms → Run → (Counts → World) → Ran → Type 0
Went L S at (Err c) = (first_fault (as_rooms L) S.needs ≡ number_of c) × (0 < number_of c)
Went L S at (Ok k) = (first_fault (as_rooms L) S.needs ≡ 0) × Within k L × (at k ≡ world_of S.mesh S.log)

-- a worker does f to whatever run the blocks hold
pub record Works (f : Run → Run) (L : Rooms) (W : World) (at : Counts → World) (r : Ran) : Type 0 where
  pub went : (R : Run) → W ≡ world_of R.mesh R.log → first_fault (as_rooms L) R.needs ≡ 0 → Went L (f R) at r

-- the same, whatever stands in the blocks of the particles
pub record WorksBeside (f : Run → Run) (L : Rooms) (W : List Float → List ℕ → World) (at : List Float → List ℕ → Counts → World) (r : Ran) : Type 0 where
  pub works : (points : List Float) (roots : List ℕ) → Works f L (W points roots) (at points roots) r
