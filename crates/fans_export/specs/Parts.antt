-- How `fans_part` tells what a split came to. Definitions only.
use Rattle.std.specs.Prelude.{ℕ, ◌≡◌, List, get_or, Ok, Err}
use Rattle.mesh.specs.declared.Counts.{Counts}
use Rattle.mesh.specs.declared.Rooms.{Rooms}
use Rattle.work.specs.Ran.{Ran}
use Rattle.mesh.specs.Refused.{number_of}

-- five numbers as counts, in their order
abbrev pub five : ℕ → ℕ → ℕ → ℕ → ℕ → Counts
five particles triangles edges boundary log = record { particles = particles; triangles = triangles; edges = edges; boundary = boundary; log = log }

-- the rooms of the largest blocks
abbrev pub largest : Rooms
largest = record { particles = 1024; triangles = 1024; edges = 2048; boundary = 2048; log = 4096 }

-- the new counts stand at the front, in their order
pub record CountsAre (q : Counts) (counts : List ℕ) : Type 0 where
  pub particles : get_or counts 0 0 ≡ q.particles
  pub triangles : get_or counts 1 0 ≡ q.triangles
  pub edges : get_or counts 2 0 ≡ q.edges
  pub boundary : get_or counts 3 0 ≡ q.boundary
  pub log : get_or counts 4 0 ≡ q.log

-- a number tells of a refusal which room lacks; otherwise it is 0, and the new counts are written
unfoldable pub Tells : Ran → ℕ → List ℕ → Type 0
Tells (Err c) r counts = r ≡ number_of c
Tells (Ok q) r counts = (r ≡ 0) × CountsAre q counts
