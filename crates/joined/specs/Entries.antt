-- A history of a mesh of triangles as a host sees it: blocks that are lent, what the contracts of the entries say of them, and the host at work between the calls. Definitions only.
use Rattle.std.specs.Prelude.{ℕ, ◌*◌, ◌≡◌, Bool, List, [], ◌++◌, length, get_or, T, Float, Ok}
use Rattle.std.specs.Float.{nan, binary32}
use Rattle.std.specs.Float.Ieee.{fits}
use Rattle.model.specs.Mesh.{Mesh}
use Rattle.model.specs.Run as M
use Rattle.model.specs.Cut.{Line}
use Rattle.model.specs.Calls.{Outcome, cut_call, crack_call, split_call, straddlers_call}
use Rattle.mesh.specs.At.{mesh_at}
use Rattle.mesh.specs.Given.{Given, Lent, mesh_of, sizes_fit_of, rooms_of, as_rooms}
use Rattle.mesh.specs.Filled.{lent}
use Rattle.mesh.specs.declared.Counts.{Counts}
use Rattle.mesh.specs.Widths.{point_columns}
use Rattle.call_frame.specs.Answered.{Answered, front_of}
use Rattle.lineage.specs.History.{Begins, Moved, Stored}

-- the rooms of lent blocks
abbrev pub rooms : Lent → M.Rooms
rooms L = as_rooms (rooms_of L)

-- what the call of an entry on the blocks G, with blocks of the lengths L lent, may be
pub data Asked (G : Given) (L : Lent) : Outcome → Type 0 where
  cuts : (n : ℕ) (B : Line) (f : Float) → Asked G L (cut_call (sizes_fit_of G) (mesh_of G) n B f (rooms L))
  cracks : (is : List ℕ) (min : ℕ) → Asked G L (crack_call (sizes_fit_of G) (mesh_of G) is min (rooms L))
  splits : (v : ℕ) (sides : List ℕ) → Asked G L (split_call (sizes_fit_of G) (mesh_of G) v sides (rooms L))
  straddlers : Asked G L (straddlers_call (sizes_fit_of G) (mesh_of G) (rooms L))

-- the eight blocks that a call left
pub record Blocks : Type 0 where
  pub points : List Float
  pub roots : List ℕ
  pub corners : List ℕ
  pub volumes : List Float
  pub ends : List ℕ
  pub lengths : List Float
  pub outline : List ℕ
  pub log : List ℕ

-- the mesh that they hold, with the counts that the call told
abbrev pub held : Counts → Blocks → Mesh
held k D = mesh_at k D.points D.roots D.corners D.volumes D.ends D.lengths D.outline

-- a call on the blocks G that answered Ok with the counts k left the blocks D; lent blocks keep their lengths
pub record Answering (G : Given) (k : Counts) (b : Bool) (D : Blocks) : Type 0 where
  pub lengths : Lent
  pub outcome : Outcome
  pub asked : Asked G lengths outcome
  pub answered : Answered outcome lengths (Ok (record { counts = k; changed = b })) D.points D.roots D.corners D.volumes D.ends D.lengths D.outline D.log
  pub kept : lent D.points D.roots D.corners D.volumes D.ends D.lengths D.outline D.log ≡ lengths

-- The mesh M₀, lent to the entries again and again, is now this mesh, and the fronts of the logs that were handed back, one behind the other, are these words.
-- A call is handed any blocks that are the mesh as it is; between the calls the host may move it.
pub data Entries (M₀ : Mesh) : Mesh → List ℕ → Type 0 where
  first : Begins M₀ → Entries M₀ M₀ []
  calling : {M : Mesh} {words : List ℕ} {k : Counts} {b : Bool} (G : Given) (D : Blocks) → Entries M₀ M words → mesh_of G ≡ M → Answering G k b D → Entries M₀ (held k D) (words ++ front_of k.log D.log)
  moving : {M M' : Mesh} {words : List ℕ} → Entries M₀ M words → Moved M M' → Entries M₀ M' words

-- every number of the f32 columns is one that f32 holds, as is all that such a column can have
pub record Held32 (G : Given) : Type 0 where
  pub points : (i : ℕ) → T (fits binary32 (get_or G.points i nan))
  pub volumes : (i : ℕ) → T (fits binary32 (get_or G.volumes i nan))
  pub lengths : (i : ℕ) → T (fits binary32 (get_or G.lengths i nan))

-- the host puts such numbers into the mesh, at first and in each move
abbrev pub HostHolds : {M₀ M : Mesh} {words : List ℕ} → Entries M₀ M words → Type 0
HostHolds {M₀} (first b) = Stored M₀
HostHolds (calling G D h e A) = HostHolds h
HostHolds (moving {M' = M'} h W) = HostHolds h × Stored M'

-- blocks that are just as long as these rows ask
pub record Packed (G : Given) (k : Counts) : Type 0 where
  pub points : length G.points ≡ point_columns * k.particles
  pub roots : length G.roots ≡ 2 * k.particles
  pub corners : length G.corners ≡ 3 * k.triangles
  pub volumes : length G.volumes ≡ 2 * k.triangles
  pub ends : length G.ends ≡ 4 * k.edges
  pub lengths : length G.lengths ≡ 4 * k.edges
  pub outline : length G.outline ≡ 2 * k.boundary

-- the rows of a mesh, counted
abbrev pub rows_in : Mesh → Counts
rows_in M = record { particles = length M.particles; triangles = length M.triangles; edges = length M.edges; boundary = length M.boundary; log = 0 }
