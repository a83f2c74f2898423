-- One split over the blocks, in its two halves: parts 1 to 3, where the edges are at their longest, and parts 4 to 6 with the log. Definitions only.
use Rattle.std.specs.Prelude.{ℕ, ◌+◌, ◌-◌, ◌/◌, ◌<◌, ◌≤◌, ◌≡◌, List, map, ◌++◌, length, Float, Ok, Err}
use Rattle.model.specs.Mesh.{Mesh}
use Rattle.model.specs.Elements.{Kind}
use Rattle.model.specs.Run.{Entry, Need}
use Rattle.model.specs.Split.{Opening, at_longest, settled, straddles, split_entries, gone_entries}
use Rattle.model.specs.Calls.{too_small}
use Rattle.mesh.specs.Log.{World, words_of}
use Rattle.mesh.specs.Given.{as_rooms}
use Rattle.mesh.specs.declared.Counts.{Counts}
use Rattle.mesh.specs.declared.Rooms.{Rooms}
use Rattle.mesh.specs.Widths.{point_columns, corner_columns, end_columns, length_columns, root_columns}
use Rattle.mesh.specs.Limits.{particle_limit, triangle_limit, edge_limit}
use Rattle.work.specs.Working.{Within}
use Rattle.split.specs.Tables.{Opens}
use Rattle.work.specs.Ran.{Ran}
use Rattle.split.specs.Grew.{Grew}
use Rattle.mesh.specs.Refused.{number_of}

-- ---- parts 1 to 3

-- what is asked of the counts, the rooms and the lengths of the blocks that parts 1 to 3 change
pub record GrowRoom (L : Rooms) (k : Counts) (lp lr lc le ll : ℕ) : Type 0 where
  pub particles : k.particles ≤ L.particles
  pub few_particles : L.particles ≤ particle_limit
  pub points : L.particles ≤ lp / point_columns
  pub roots : L.particles ≤ lr / root_columns
  pub few_triangles : k.triangles ≤ triangle_limit
  pub corners : k.triangles ≤ lc / corner_columns
  pub edges : k.edges ≤ L.edges
  pub few_edges : L.edges ≤ edge_limit
  pub ends : L.edges ≤ le / end_columns
  pub lengths : L.edges ≤ ll / length_columns

-- the counts with other numbers of particles and edges
abbrev pub grown_counts : Counts → ℕ → ℕ → Counts
grown_counts k p e = record { particles = p; triangles = k.triangles; edges = e; boundary = k.boundary; log = k.log }

-- what was told after parts 1 to 3 of a split of M: the room that lacks, whatever the rest of the step needs; or how many edges there are at their longest
abbrev pub GrewTo : Kind → Opening → Rooms → Counts → Mesh → (Counts → Mesh) → Grew → Type 0
GrewTo K O L k M at (Err c) =
    ((b l : ℕ) → too_small (as_rooms L) (record { particles = length (at_longest K O M).particles; edges = length (at_longest K O M).edges; boundary = b; log = l }) ≡ number_of c) × (0 < number_of c)
GrewTo K O L k M at (Ok e) =
    (k.particles + O.count - 1 ≤ L.particles) × (e ≤ L.edges) × (at (grown_counts k (k.particles + O.count - 1) e) ≡ at_longest K O M)

-- for every split that the tables hold, and whatever stands in the other blocks
pub record GrowthTold (K : Kind) (L : Rooms) (k : Counts) (v n count : ℕ) (numbers verts : List ℕ) (measures : List Float) (groups : List ℕ) (before after : Counts → List Float → List ℕ → Mesh) (r : Grew) : Type 0 where
  pub told : (O : Opening) (volumes : List Float) (outline : List ℕ) → Opens K O v k.particles n count numbers verts measures groups
      → GrewTo K O L k (before k volumes outline) (λ k'. after k' volumes outline) r

-- ---- parts 4 to 6, and the log

-- what is logged of a split whose edges are at their longest in A
abbrev pub logged_of : Kind → Opening → Mesh → List Entry
logged_of K O A = split_entries O ++ gone_entries (straddles K A O) A.edges

-- the world behind parts 4 to 6
unfoldable pub settled_world : Kind → Opening → World → World
settled_world K O W = record { mesh = settled K O W.mesh; log = W.log ++ map words_of (logged_of K O W.mesh) }

-- what was told after parts 4 to 6 with `extra` entries to come: the room that lacks, where particles and edges have theirs; or the new counts
abbrev pub SettledTo : Kind → Opening → Rooms → ℕ → World → (Counts → World) → Ran → Type 0
SettledTo K O L extra W at (Err c) =
    ((p e : ℕ) → p ≤ L.particles → e ≤ L.edges
    → too_small (as_rooms L) (record { particles = p; edges = e; boundary = length (settled K O W.mesh).boundary; log = length W.log + (length (logged_of K O W.mesh) + extra) }) ≡ number_of c)
    × (0 < number_of c)
SettledTo K O L extra W at (Ok k) =
    (length (settled K O W.mesh).boundary ≤ L.boundary) × (length W.log + (length (logged_of K O W.mesh) + extra) ≤ L.log) × Within k L
    × (at k ≡ settled_world K O W)

-- for every split that the tables hold, and whatever stands in the block of roots
pub record SettlingTold (K : Kind) (L : Rooms) (extra v before n count : ℕ) (numbers verts : List ℕ) (measures : List Float) (groups : List ℕ) (W : List ℕ → World) (at : List ℕ → Counts → World) (r : Ran) : Type 0 where
  pub told : (O : Opening) (roots : List ℕ) → Opens K O v before n count numbers verts measures groups → SettledTo K O L extra (W roots) (at roots) r

-- ---- the whole

-- what the step needs, with `extra` entries behind its own
unfoldable pub need_of : Kind → Opening → ℕ → World → Need
need_of K O extra W =
    let A = at_longest K O W.mesh in
    let S = settled K O A in
    record { particles = length S.particles; edges = length A.edges; boundary = length S.boundary; log = length W.log + (length (logged_of K O A) + extra) }

-- the world behind the step
unfoldable pub split_world : Kind → Opening → World → World
split_world K O W = settled_world K O (record { mesh = at_longest K O W.mesh; log = W.log })

-- what was told after the step: the room that lacks; or the new counts, with room for `extra` entries
abbrev pub Stepped : Kind → Opening → Rooms → ℕ → World → (Counts → World) → Ran → Type 0
Stepped K O L extra W at (Err c) = (too_small (as_rooms L) (need_of K O extra W) ≡ number_of c) × (0 < number_of c)
Stepped K O L extra W at (Ok k) = (too_small (as_rooms L) (need_of K O extra W) ≡ 0) × Within k L × (k.log + extra ≤ L.log) × (at k ≡ split_world K O W)
