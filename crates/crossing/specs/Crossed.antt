-- The crossings of a strap cut, one after the other over the blocks. Only contracts between workers need this file. Definitions only.
use Rattle.std.specs.Prelude.{ℕ, ◌<◌, ◌≤◌, ◌≡◌, List, length, get_or, Float, Ok}
use Rattle.lists.specs.Lists.{stands, fold}
use Rattle.model.specs.Run.{Run}
use Rattle.model.specs.Calls.{first_fault}
use Rattle.model.specs.Cut.{Crossing, Strapping, strapping, crossed}
use Rattle.mesh.specs.At.{mesh_at}
use Rattle.mesh.specs.Log.{World, world_of, world_at}
use Rattle.mesh.specs.Given.{as_rooms}
use Rattle.mesh.specs.Filled.{lent}
use Rattle.mesh.specs.declared.Counts.{Counts}
use Rattle.mesh.specs.declared.Rooms.{Rooms}
use Rattle.elements.specs.Workers.{marked}
use Rattle.work.specs.Working.{Ready, Went, Logged}
use Rattle.work.specs.Ran.{Ran}
use Rattle.marks.specs.Marking.{Marks}
use Rattle.mesh.specs.Blocks.{LentNumbersIn, LentIndicesIn, LentNumbers, LentIndices}

-- the run of a strap cut at work, the bend edges to go, and the ends to split
abbrev pub ran_of : Strapping → Run
ran_of (strapping R bends snapped) = R

abbrev pub bends_of : Strapping → List ℕ
bends_of (strapping R bends snapped) = bends

abbrev pub snapped_of : Strapping → List ℕ
snapped_of (strapping R bends snapped) = snapped

-- exactly its bend edges and its ends are marked
pub record StrapMarks (S : Strapping) (bends snapped : List ℕ) : Type 0 where
  pub bends_are : (j : ℕ) → marked bends j ≡ stands j (bends_of S)
  pub snapped_are : Marks (snapped_of S) snapped

-- a worker does these crossings to whatever strap cut the blocks hold; if no room lacks, its marks are right where they were
pub record Crosses (f : Float) (cs : List Crossing) (L : Rooms) (W : World) (at : Counts → World) (bends snapped bends' snapped' : List ℕ) (r : Ran) : Type 0 where
  pub went : (S : Strapping) → W ≡ world_of (ran_of S).mesh (ran_of S).log → first_fault (as_rooms L) (ran_of S).needs ≡ 0 → Went L (ran_of (fold (crossed f) S cs)) at r
  pub marks :
      (S : Strapping) → W ≡ world_of (ran_of S).mesh (ran_of S).log → first_fault (as_rooms L) (ran_of S).needs ≡ 0 → StrapMarks S bends snapped
      → (k : Counts) → r ≡ Ok k → StrapMarks (fold (crossed f) S cs) bends' snapped'

-- the same, whatever stands in the blocks of the triangles
pub record CrossTold (f : Float) (cs : List Crossing) (L : Rooms) (k : Counts) (points : List Float) (roots ends : List ℕ) (lengths : List Float) (outline log bends snapped : List ℕ) (points' : List Float) (roots' ends' : List ℕ) (lengths' : List Float) (outline' log' bends' snapped' : List ℕ) (r : Ran) : Type 0 where
  pub crosses :
      (corners : List ℕ) (volumes : List Float)
      → Crosses f cs L (world_at k points roots corners volumes ends lengths outline log) (λ q. world_at q points' roots' corners volumes ends' lengths' outline' log') bends snapped bends' snapped' r

-- with some blocks of triangles, the blocks hold a mesh whose indices fit; each edge and each particle has a mark
pub record CrossRoom (L : Rooms) (k : Counts) (points : List Float) (roots ends : List ℕ) (lengths : List Float) (outline log : List ℕ) (lb ls : ℕ) : Type 0 where
  pub corners : List ℕ
  pub volumes : List Float
  pub ready : Ready L k (lent points roots corners volumes ends lengths outline log) (mesh_at k points roots corners volumes ends lengths outline)
  pub bends_long : 2048 ≤ lb
  pub snapped_long : 1024 ≤ ls

-- a log; and the first m crossings have places in the tables, and name edges
pub record CrossingsIn (m : ℕ) (numbers : List ℕ) (lt : ℕ) (k : Counts) (log : List ℕ) : Type 0 where
  pub logged : Logged k.log log
  pub numbers_long : m ≤ length numbers
  pub ts_long : m ≤ lt
  pub inside : (j : ℕ) → j < m → get_or numbers j 0 < k.edges

-- ---- the blocks and lists, as a contract names them

-- the blocks have room, and so have the lists of bends and of snapped ends
abbrev pub CrossIn : Rooms → Counts → LentNumbersIn → LentIndicesIn → LentIndicesIn → LentNumbersIn → LentIndicesIn → LentIndicesIn → LentIndicesIn → LentIndicesIn → Type 0
CrossIn L k points roots ends lengths outline log bends snapped =
    CrossRoom L k points.now roots.now ends.now lengths.now outline.now log.now (length bends.now) (length snapped.now)

-- these crossings were done in turn
abbrev pub CrossedIn : Float → List Crossing → Rooms → Counts → LentNumbers → LentIndices → LentIndices → LentNumbers → LentIndices → LentIndices → LentIndices → LentIndices → Ran → Type 0
CrossedIn f cs L k points roots ends lengths outline log bends snapped r =
    CrossTold f cs L k points.entry.now roots.entry.now ends.entry.now lengths.entry.now outline.entry.now log.entry.now bends.entry.now snapped.entry.now
    points.exit.now roots.exit.now ends.exit.now lengths.exit.now outline.exit.now log.exit.now bends.exit.now snapped.exit.now r
