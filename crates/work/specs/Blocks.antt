-- What a worker over the lent blocks asks and promises, as its contract names them (Rattle.mesh.specs.Blocks). Definitions only.
use Rattle.std.specs.Prelude.{length}
use Rattle.model.specs.Mesh.{Mesh}
use Rattle.model.specs.Run.{Run}
use Rattle.mesh.specs.Log.{World, world_at}
use Rattle.mesh.specs.At.{mesh_at}
use Rattle.mesh.specs.Filled.{lent}
use Rattle.mesh.specs.Blocks.{NumbersIn, LentNumbersIn, IndicesIn, LentIndicesIn, Numbers, LentNumbers, Indices, LentIndices, mesh_in, world_before, world_behind}
use Rattle.mesh.specs.declared.Counts.{Counts}
use Rattle.mesh.specs.declared.Rooms.{Rooms}
use Rattle.work.specs.Ran.{Ran}
use Rattle.work.specs.Working.{Ready, SettleRoom, Works, WorksBeside}

-- before a call: the lent blocks hold a mesh whose indices fit, within the rooms
abbrev pub ReadyIn : Rooms → Counts → LentNumbersIn → LentIndicesIn → LentIndicesIn → NumbersIn → LentIndicesIn → LentNumbersIn → LentIndicesIn → LentIndicesIn → Type 0
ReadyIn L k points roots corners volumes ends lengths outline log =
    Ready L k (lent points.now roots.now corners.now volumes.now ends.now lengths.now outline.now log.now) (mesh_in k points roots corners volumes ends lengths outline)

-- what P says of the mesh and of the world before a call, and of the worlds that the blocks may be read as behind it
abbrev pub OverBlocks : (Mesh → World → (Counts → World) → Type 0) → Counts → LentNumbers → LentIndices → LentIndices → Numbers → LentIndices → LentNumbers → LentIndices → LentIndices → Type 0
OverBlocks P k points roots corners volumes ends lengths outline log =
    P (mesh_at k points.entry.now roots.entry.now corners.entry.now volumes.entry.now ends.entry.now lengths.entry.now outline.entry.now) (world_before k points roots corners volumes ends lengths outline log) (λ q. world_behind q points roots corners volumes ends lengths outline log)

-- behind a call that came to r: it did f to whatever run the lent blocks held
abbrev pub WorksIn : (Run → Run) → Rooms → Counts → LentNumbers → LentIndices → LentIndices → Numbers → LentIndices → LentNumbers → LentIndices → LentIndices → Ran → Type 0
WorksIn f L k points roots corners volumes ends lengths outline log r =
    Works f L (world_before k points roots corners volumes ends lengths outline log) (λ q. world_behind q points roots corners volumes ends lengths outline log) r

-- what parts 4 to 6 and the removal of straddlers ask of the blocks that they are lent
abbrev pub SettleRoomIn : Rooms → Counts → IndicesIn → NumbersIn → LentIndicesIn → LentNumbersIn → LentIndicesIn → LentIndicesIn → Type 0
SettleRoomIn L k corners volumes ends lengths outline log =
    SettleRoom L k (length corners.now) (length volumes.now) (length ends.now) (length lengths.now) (length outline.now) (length log.now)

-- a worker that leaves the particles alone did f, whatever stands in their blocks
abbrev pub WorksBesideIn : (Run → Run) → Rooms → Counts → Indices → Numbers → LentIndices → LentNumbers → LentIndices → LentIndices → Ran → Type 0
WorksBesideIn f L k corners volumes ends lengths outline log r =
    WorksBeside f L
    (λ points roots. world_at k points roots corners.entry.now volumes.entry.now ends.entry.now lengths.entry.now outline.entry.now log.entry.now)
    (λ points roots q. world_at q points roots corners.exit.now volumes.exit.now ends.exit.now lengths.exit.now outline.exit.now log.exit.now) r
