-- What the parts of a split ask of the blocks and tables that they are lent, and what they tell, as their contracts name them (Rattle.mesh.specs.Blocks). Definitions only.
use Rattle.std.specs.Prelude.{ℕ, ◌≤◌, length, Option}
use Rattle.model.specs.Mesh.{Mesh}
use Rattle.model.specs.Elements.{Kind}
use Rattle.mesh.specs.At.{mesh_at}
use Rattle.mesh.specs.Log.{World, world_at}
use Rattle.mesh.specs.Blocks.{NumbersIn, LentNumbersIn, IndicesIn, LentIndicesIn, Numbers, LentNumbers, Indices, LentIndices, world_before}
use Rattle.mesh.specs.declared.Counts.{Counts}
use Rattle.mesh.specs.declared.Rooms.{Rooms}
use Rattle.links.specs.Linked.{FrontLinked, MeshLinked}
use Rattle.work.specs.Places.{EndsIn}
use Rattle.work.specs.Ran.{Ran}
use Rattle.edge_drops.specs.Parted.{world_parted, ListingAfter, parted_behind, ListedBehind}
use Rattle.boundary.specs.Faces.{GrownLinked}
use Rattle.split.specs.Grew.{Grew}
use Rattle.split.specs.Tables.{FanGrouped, FanSided, TablesFit}
use Rattle.split.specs.Steps.{GrowRoom, GrowthTold}
use Rattle.split.specs.Growing.{StrapsNamed, ElementsRoom}
use Rattle.split.specs.Linking.{FanNamed, HeadsRoom, LinkedAfter, LinkedListed, FrontKept, LinkedGrown, FanSound, FacetsLinked}
use Rattle.split.specs.Settling.{BoundaryAsked, BoundaryTold, SettleAsked, SettledFor}

-- ---- the tables of a fan

-- the fan of v in M stands in the tables, and each of its elements has a group, or a side
abbrev pub GroupedIn : Kind → Mesh → ℕ → ℕ → ℕ → IndicesIn → IndicesIn → NumbersIn → IndicesIn → Type 0
GroupedIn K M v n count numbers verts measures groups = FanGrouped K M v n count numbers.now verts.now measures.now groups.now

abbrev pub SidedIn : Kind → Mesh → ℕ → ℕ → IndicesIn → IndicesIn → NumbersIn → IndicesIn → Type 0
SidedIn K M v n numbers verts measures sides = FanSided K M v n numbers.now verts.now measures.now sides.now

-- a list has a place for each edge, and one that says how many are listed
abbrev pub ListIn : LentIndicesIn → Type 0
ListIn list = 2049 ≤ length list.now

-- behind a worker that came to r: where it is done, the tables of links are those of the blocks again
abbrev pub LinkedBehind : Kind → LentIndices → LentIndices → LentIndices → LentIndices → Ran → Type 0
LinkedBehind K corners ends outline links r = LinkedAfter K corners.exit.now ends.exit.now outline.exit.now links.exit.now r

-- the same where edges are listed that are to go: the tables are those of the blocks with the listed edges
abbrev pub LinkedParted : Kind → LentIndices → LentIndices → LentIndices → LentIndices → LentIndices → Ran → Type 0
LinkedParted K corners ends outline links list r = LinkedListed K corners.exit.now ends.exit.now outline.exit.now links.exit.now list.exit.now r

-- behind a worker that came to r: where it is done, the list is one of the edges in the blocks, and the tables are those of the blocks with them
abbrev pub EdgesBehind : Kind → LentIndices → LentIndices → LentNumbers → LentIndices → LentIndices → LentIndices → Ran → Type 0
EdgesBehind K corners ends lengths outline links list r = ListedBehind ends lengths list r × LinkedParted K corners ends outline links list r

-- what P says of the mesh and of the world before a call, and of the worlds that the blocks may be read as behind it, without the listed edges
abbrev pub OverParted : (Mesh → World → (Counts → World) → Type 0) → Counts → LentNumbers → LentIndices → LentIndices → Numbers → LentIndices → LentNumbers → LentIndices → LentIndices → LentIndices → Type 0
OverParted P k points roots corners volumes ends lengths outline log list =
    P (mesh_at k points.entry.now roots.entry.now corners.entry.now volumes.entry.now ends.entry.now lengths.entry.now outline.entry.now) (world_before k points roots corners volumes ends lengths outline log) (λ q. parted_behind q points roots corners volumes ends lengths outline log list)

-- the front of the tables of links is that of the blocks; and behind a worker it is that again, and the boundary's part is as it was
abbrev pub FrontIn : Kind → Counts → IndicesIn → IndicesIn → IndicesIn → Type 0
FrontIn K k corners ends links = FrontLinked K k.triangles k.edges corners.now ends.now links.now

abbrev pub FrontBehind : Kind → ℕ → ℕ → LentIndices → LentIndices → LentIndices → Type 0
FrontBehind K t e corners ends links = FrontKept K t e corners.exit.now ends.exit.now links.entry.now links.exit.now

-- ---- parts 1 to 3

-- the elements of the fan have room, their tables are those of the blocks, and the ends name particles
abbrev pub ElementsIn : Kind → ℕ → ℕ → ℕ → ℕ → ℕ → IndicesIn → IndicesIn → LentIndicesIn → LentIndicesIn → LentIndicesIn → Type 0
ElementsIn K v before t e n numbers groups corners ends links =
    ElementsRoom K before n (length corners.now) e numbers.now groups.now
    × FrontLinked K t e corners.now ends.now links.now
    × FanNamed K v before t n numbers.now corners.now
    × HeadsRoom v before t n (length corners.now) groups.now
    × EndsIn before e ends.now
    × StrapsNamed K v n numbers.now ends.now

-- the blocks have room, the tables hold a split of v by `count` groups of n elements, the ends name particles, and the links are those of the block
abbrev pub GrowIn : Kind → Rooms → Counts → ℕ → ℕ → ℕ → IndicesIn → IndicesIn → NumbersIn → IndicesIn → LentNumbersIn → LentIndicesIn → LentIndicesIn → LentIndicesIn → LentNumbersIn → LentIndicesIn → LentIndicesIn → Type 0
GrowIn K L k v n count numbers verts measures groups points roots corners ends lengths list links =
    GrowRoom L k (length points.now) (length roots.now) (length corners.now) (length ends.now) (length lengths.now)
    × TablesFit K k.particles k.triangles k.edges v n count numbers.now verts.now measures.now groups.now
    × EndsIn k.particles k.edges ends.now
    × StrapsNamed K v n numbers.now ends.now
    × FrontLinked K k.triangles k.edges corners.now ends.now links.now
    × FanNamed K v k.particles k.triangles n numbers.now corners.now
    × ListIn list

-- what they came to, whatever stands in the blocks of volumes and of the outline
abbrev pub GrewIn : Kind → Rooms → Counts → ℕ → ℕ → ℕ → Indices → Indices → Numbers → Indices → LentNumbers → LentIndices → LentIndices → LentIndices → LentNumbers → LentIndices → Grew → Type 0
GrewIn K L k v n count numbers verts measures groups points roots corners ends lengths links r =
    GrowthTold K L k v n count numbers.entry.now verts.entry.now measures.entry.now groups.entry.now
    (λ q volumes outline. mesh_at q points.entry.now roots.entry.now corners.entry.now volumes ends.entry.now lengths.entry.now outline)
    (λ q volumes outline. mesh_at q points.exit.now roots.exit.now corners.exit.now volumes ends.exit.now lengths.exit.now outline) r
    × LinkedGrown K k.triangles corners.exit.now ends.exit.now links.entry.now links.exit.now r

-- ---- parts 4 to 6

-- what the boundary asks, with its table, and a list for its entries at v; and what becomes of it
abbrev pub OpenIn : Kind → ℕ → ℕ → ℕ → ℕ → ℕ → ℕ → IndicesIn → IndicesIn → IndicesIn → NumbersIn → IndicesIn → LentIndicesIn → LentIndicesIn → LentIndicesIn → Type 0
OpenIn K v before n count b room numbers verts groups points corners outline table list =
    BoundaryAsked K v before n count b room numbers.now verts.now groups.now (length points.now) (length corners.now) outline.now
    × FacetsLinked K n b room numbers.now corners.now outline.now table.now
    × ListIn list

abbrev pub OpenedIn : Kind → ℕ → ℕ → ℕ → ℕ → ℕ → ℕ → Indices → Indices → Indices → Numbers → Indices → LentIndices → LentIndices → Option ℕ → Type 0
OpenedIn K v before n count b room numbers verts groups points corners outline table r =
    BoundaryTold K v before n count b room numbers.entry.now verts.entry.now groups.entry.now points.entry.now corners.entry.now outline.entry.now outline.exit.now r
    × GrownLinked r outline.exit.now table.exit.now

-- the blocks have room, the tables hold a split of v, of which parts 1 to 3 are done, and the links are those of the block
abbrev pub SettleIn : Kind → Rooms → Counts → ℕ → ℕ → ℕ → ℕ → ℕ → IndicesIn → IndicesIn → IndicesIn → NumbersIn → IndicesIn → NumbersIn → IndicesIn → NumbersIn → LentIndicesIn → LentIndicesIn → LentIndicesIn → LentIndicesIn → Type 0
SettleIn K L k v before n count extra numbers verts groups points corners volumes ends lengths outline log list links =
    SettleAsked K L k v before n count extra numbers.now verts.now groups.now (length points.now) (length corners.now) (length volumes.now) ends.now (length lengths.now) outline.now (length log.now)
    × ListIn list
    × MeshLinked K k.triangles k.edges k.boundary corners.now ends.now outline.now links.now
    × FanSound K n numbers.now corners.now

-- what they came to, whatever stands in the block of roots
abbrev pub SettledIn : Kind → Rooms → ℕ → ℕ → ℕ → ℕ → ℕ → Counts → Indices → Indices → Indices → Numbers → Indices → Numbers → Indices → Numbers → LentIndices → LentIndices → LentIndices → LentIndices → Ran → Type 0
SettledIn K L extra v before n count k numbers verts groups points corners volumes ends lengths outline log list links r =
    SettledFor K L extra v before n count numbers.entry.now verts.entry.now groups.entry.now
    (λ roots. world_at k points.entry.now roots corners.entry.now volumes.entry.now ends.entry.now lengths.entry.now outline.entry.now log.entry.now)
    (λ roots q. world_parted q points.exit.now roots corners.exit.now volumes.exit.now ends.exit.now lengths.exit.now outline.exit.now log.exit.now list.exit.now) r
    × ListingAfter (length ends.exit.now) (length lengths.exit.now) list.exit.now r
    × LinkedListed K corners.exit.now ends.exit.now outline.exit.now links.exit.now list.exit.now r
