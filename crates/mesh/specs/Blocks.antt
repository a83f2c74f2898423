-- The blocks that a function is lent, as its contract names them: what they hold before the call and behind it. A name that ends in `In` is for a `requires`. Definitions only.
use Rattle.std.specs.Prelude.{ℕ, List, [], Float}
use Rattle.std.specs.Borrow.{Bor, MutBor}
use denote.Triple.Both.{Both}
use Rattle.model.specs.Mesh.{Mesh}
use Rattle.mesh.specs.At.{mesh_at}
use Rattle.mesh.specs.Log.{World, world_at}
use Rattle.mesh.specs.Given.{Given, Lent, given}
use Rattle.mesh.specs.Filled.{lent}
use Rattle.mesh.specs.declared.Counts.{Counts}

-- ---- before a call, in a `requires`

-- a block of numbers, and one of indices, flags or words, lent to read alone
abbrev pub NumbersIn : Type 0
NumbersIn = Bor (List Float)

abbrev pub IndicesIn : Type 0
IndicesIn = Bor (List ℕ)

-- the same lent to write
abbrev pub LentNumbersIn : Type 0
LentNumbersIn = MutBor (List Float)

abbrev pub LentIndicesIn : Type 0
LentIndicesIn = MutBor (List ℕ)

-- the mesh in the fronts of blocks that are lent to write, but for the volumes, which no worker changes
abbrev pub mesh_in : Counts → LentNumbersIn → LentIndicesIn → LentIndicesIn → NumbersIn → LentIndicesIn → LentNumbersIn → LentIndicesIn → Mesh
mesh_in k points roots corners volumes ends lengths outline = mesh_at k points.now roots.now corners.now volumes.now ends.now lengths.now outline.now

-- the seven blocks of an input
abbrev pub given_in : NumbersIn → IndicesIn → IndicesIn → NumbersIn → IndicesIn → NumbersIn → IndicesIn → Given
given_in points roots corners volumes ends lengths outline = given points.now roots.now corners.now volumes.now ends.now lengths.now outline.now

-- the lengths of eight blocks, and of seven without a log
abbrev pub lent_in : LentNumbersIn → LentIndicesIn → LentIndicesIn → LentNumbersIn → LentIndicesIn → LentNumbersIn → LentIndicesIn → LentIndicesIn → Lent
lent_in points roots corners volumes ends lengths outline log = lent points.now roots.now corners.now volumes.now ends.now lengths.now outline.now log.now

abbrev pub blocks_in : LentNumbersIn → LentIndicesIn → LentIndicesIn → LentNumbersIn → LentIndicesIn → LentNumbersIn → LentIndicesIn → Lent
blocks_in points roots corners volumes ends lengths outline = lent points.now roots.now corners.now volumes.now ends.now lengths.now outline.now []

-- the lengths of the seven blocks of an input
abbrev pub inputs_in : NumbersIn → IndicesIn → IndicesIn → NumbersIn → IndicesIn → NumbersIn → IndicesIn → Lent
inputs_in points roots corners volumes ends lengths outline = lent points.now roots.now corners.now volumes.now ends.now lengths.now outline.now []

-- ---- before a call and behind it, in an `ensures`

-- a block at both moments; one that is lent to read alone is the same at both
abbrev pub Numbers : Type 0
Numbers = Both (Bor (List Float)) (Bor (List Float))

abbrev pub Indices : Type 0
Indices = Both (Bor (List ℕ)) (Bor (List ℕ))

-- the same lent to write
abbrev pub LentNumbers : Type 0
LentNumbers = Both (MutBor (List Float)) (MutBor (List Float))

abbrev pub LentIndices : Type 0
LentIndices = Both (MutBor (List ℕ)) (MutBor (List ℕ))

-- the mesh in the fronts of blocks that are lent to read alone before the call, and in those of blocks that are lent to write behind it
abbrev pub mesh_before : Counts → Numbers → Indices → Indices → Numbers → Indices → Numbers → Indices → Mesh
mesh_before k points roots corners volumes ends lengths outline =
    mesh_at k points.entry.now roots.entry.now corners.entry.now volumes.entry.now ends.entry.now lengths.entry.now outline.entry.now

abbrev pub mesh_behind : Counts → LentNumbers → LentIndices → LentIndices → LentNumbers → LentIndices → LentNumbers → LentIndices → Mesh
mesh_behind k points roots corners volumes ends lengths outline =
    mesh_at k points.exit.now roots.exit.now corners.exit.now volumes.exit.now ends.exit.now lengths.exit.now outline.exit.now

-- the mesh and the log in blocks that are lent to write, but for the volumes
abbrev pub world_before : Counts → LentNumbers → LentIndices → LentIndices → Numbers → LentIndices → LentNumbers → LentIndices → LentIndices → World
world_before k points roots corners volumes ends lengths outline log =
    world_at k points.entry.now roots.entry.now corners.entry.now volumes.entry.now ends.entry.now lengths.entry.now outline.entry.now log.entry.now

abbrev pub world_behind : Counts → LentNumbers → LentIndices → LentIndices → Numbers → LentIndices → LentNumbers → LentIndices → LentIndices → World
world_behind k points roots corners volumes ends lengths outline log =
    world_at k points.exit.now roots.exit.now corners.exit.now volumes.exit.now ends.exit.now lengths.exit.now outline.exit.now log.exit.now

-- the seven blocks of an input, which a call leaves as they are
abbrev pub given_before : Numbers → Indices → Indices → Numbers → Indices → Numbers → Indices → Given
given_before points roots corners volumes ends lengths outline =
    given points.entry.now roots.entry.now corners.entry.now volumes.entry.now ends.entry.now lengths.entry.now outline.entry.now

-- the lengths of eight blocks, which stay
abbrev pub lent_before : LentNumbers → LentIndices → LentIndices → LentNumbers → LentIndices → LentNumbers → LentIndices → LentIndices → Lent
lent_before points roots corners volumes ends lengths outline log =
    lent points.entry.now roots.entry.now corners.entry.now volumes.entry.now ends.entry.now lengths.entry.now outline.entry.now log.entry.now
