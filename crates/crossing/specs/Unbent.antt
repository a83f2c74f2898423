-- The marked bend edges go, as one step. Only contracts between workers need this file. Definitions only.
use Rattle.std.specs.Prelude.{ℕ, ◌/◌, ◌<◌, ◌≤◌, ◌≡◌, true, List, Float, length}
use Rattle.lists.specs.Lists.{stands}
use Rattle.model.specs.Cut.{unbent}
use Rattle.mesh.specs.Log.{world_at}
use Rattle.mesh.specs.declared.Counts.{Counts}
use Rattle.mesh.specs.declared.Rooms.{Rooms}
use Rattle.mesh.specs.Widths.{end_columns, length_columns, side_columns, entry_words}
use Rattle.mesh.specs.Limits.{particle_limit, edge_limit, boundary_limit}
use Rattle.work.specs.Places.{EndsIn}
use Rattle.work.specs.Working.{Within, Works}
use Rattle.work.specs.Removal.{marked}
use Rattle.work.specs.Ran.{Ran}

-- the counts are within the rooms, and the blocks have them; each edge has a mark
pub record UnbentRoom (L : Rooms) (k : Counts) (bends : ℕ) (ends₀ : List ℕ) (ll lo lg : ℕ) : Type 0 where
  pub counts : Within k L
  pub few_edges : L.edges ≤ edge_limit
  pub few_boundary : L.boundary ≤ boundary_limit
  pub marks : k.edges ≤ bends
  pub ends : L.edges ≤ length ends₀ / end_columns
  pub ends_in : EndsIn particle_limit k.edges ends₀
  pub lengths : L.edges ≤ ll / length_columns
  pub outline : L.boundary ≤ lo / side_columns
  pub log : L.log ≤ lg / entry_words

-- the marks are those of a list of numbers of edges
pub record MarksOf (ms bends : List ℕ) (e : ℕ) : Type 0 where
  pub told : (j : ℕ) → j < e → marked bends j ≡ stands j ms
  pub inside : (j : ℕ) → stands j ms ≡ true → j < e

-- the step was done to whatever run the blocks hold, for every list that the marks are those of, whatever stands in the blocks of particles and triangles
pub record UnbentTold (L : Rooms) (k : Counts) (bends ends : List ℕ) (lengths : List Float) (outline log ends' : List ℕ) (lengths' : List Float) (outline' log' : List ℕ) (r : Ran) : Type 0 where
  pub works :
      (ms : List ℕ) (points : List Float) (roots corners : List ℕ) (volumes : List Float) → MarksOf ms bends k.edges
      → Works (unbent ms) L (world_at k points roots corners volumes ends lengths outline log) (λ q. world_at q points roots corners volumes ends' lengths' outline' log') r
