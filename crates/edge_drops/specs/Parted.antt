-- Listed edges that are to go, and stand in the lent blocks still: what the blocks then mean is the mesh without them. A list has a place for each edge, and place 2,048 says how many are listed. Definitions only.
use Rattle.std.specs.Prelude.{ℕ, ◌+◌, ◌≤◌, List, length, get_or, take, Float, Ok, Err}
use Rattle.lists.specs.LeftOut.{Rising, left_out}
use Rattle.model.specs.Mesh.{Edge, Mesh}
use Rattle.model.specs.Run.{Run}
use Rattle.mesh.specs.At.{particles_at, triangles_at, edges_at, boundary_at}
use Rattle.mesh.specs.Log.{World, log_at}
use Rattle.mesh.specs.Workers.{EdgeRoom}
use Rattle.mesh.specs.Blocks.{Numbers, LentNumbers, LentIndices, world_before}
use Rattle.mesh.specs.declared.Counts.{Counts}
use Rattle.mesh.specs.declared.Rooms.{Rooms}
use Rattle.mesh.specs.Limits.{edge_limit}
use Rattle.work.specs.Working.{Works}
use Rattle.work.specs.Ran.{Ran}

-- how many edges are listed
abbrev pub listed : List ℕ → ℕ
listed list = get_or list edge_limit 0

-- the edges of blocks that hold e edges besides the listed ones
unfoldable pub edges_parted : ℕ → List ℕ → List Float → List ℕ → List Edge
edges_parted e ends lengths list = left_out (take (listed list) list) (edges_at (e + listed list) ends lengths)

-- the mesh that the fronts of seven blocks hold, without the listed edges
unfoldable pub mesh_parted : Counts → List Float → List ℕ → List ℕ → List Float → List ℕ → List Float → List ℕ → List ℕ → Mesh
mesh_parted k points roots corners volumes ends lengths outline list =
    record {
      particles = particles_at k.particles points roots;
      triangles = triangles_at k.triangles corners volumes;
      edges = edges_parted k.edges ends lengths list;
      boundary = boundary_at k.boundary outline;
    }

-- that mesh and the log
unfoldable pub world_parted : Counts → List Float → List ℕ → List ℕ → List Float → List ℕ → List Float → List ℕ → List ℕ → List ℕ → World
world_parted k points roots corners volumes ends lengths outline log list =
    record { mesh = mesh_parted k points roots corners volumes ends lengths outline list; log = log_at k.log log }

-- the listed edges are rising ones of those in blocks of le and ll places, of which e are to stay
pub record Listing (e le ll : ℕ) (list : List ℕ) : Type 0 where
  pub long : 2049 ≤ length list
  pub rising : Rising list (listed list) (e + listed list)
  pub few : e + listed list ≤ edge_limit
  pub rows : EdgeRoom (e + listed list) le ll

-- behind a worker: where it is done, the list is one of the edges in the blocks
abbrev pub ListingAfter : ℕ → ℕ → List ℕ → Ran → Type 0
ListingAfter le ll list (Err c) = Unit {0}
ListingAfter le ll list (Ok q) = Listing q.edges le ll list

-- ---- as a contract names them

-- the mesh and the log behind a call, without the listed edges
abbrev pub parted_behind : Counts → LentNumbers → LentIndices → LentIndices → Numbers → LentIndices → LentNumbers → LentIndices → LentIndices → LentIndices → World
parted_behind k points roots corners volumes ends lengths outline log list =
    world_parted k points.exit.now roots.exit.now corners.exit.now volumes.exit.now ends.exit.now lengths.exit.now outline.exit.now log.exit.now list.exit.now

-- the list behind a call that came to r is one of the edges in the blocks
abbrev pub ListedBehind : LentIndices → LentNumbers → LentIndices → Ran → Type 0
ListedBehind ends lengths list r = ListingAfter (length ends.exit.now) (length lengths.exit.now) list.exit.now r

-- behind a call that came to r: it did f to whatever run the lent blocks held, and the edges that are to go are listed
abbrev pub PartsIn : (Run → Run) → Rooms → Counts → LentNumbers → LentIndices → LentIndices → Numbers → LentIndices → LentNumbers → LentIndices → LentIndices → LentIndices → Ran → Type 0
PartsIn f L k points roots corners volumes ends lengths outline log list r =
    Works f L (world_before k points roots corners volumes ends lengths outline log) (λ q. parted_behind q points roots corners volumes ends lengths outline log list) r
    × ListedBehind ends lengths list r
