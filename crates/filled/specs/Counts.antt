-- The counts of a mesh and its log. Definitions only.
use Rattle.std.specs.Prelude.{ℕ, List, length}
use Rattle.mesh.specs.Log.{World}
use Rattle.mesh.specs.declared.Counts.{Counts}

-- how many rows each list of a mesh has, and its log
abbrev pub counts_in : World → Counts
counts_in W = record { particles = length W.mesh.particles; triangles = length W.mesh.triangles; edges = length W.mesh.edges; boundary = length W.mesh.boundary; log = length W.log }
