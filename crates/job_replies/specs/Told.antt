-- The reply to a job on an image, in rooms that the program has. Only the contracts between the functions need this file. Definitions only.
use Rattle.std.specs.Prelude.{ℕ, ◌≤◌, min, List, length}
use Rattle.mesh.specs.declared.Rooms.{Rooms}
use Rattle.image.specs.Image.{image_of, image_sized_of}
use Rattle.mesh.specs.Given.{mesh_of, sizes, as_rooms}
use Rattle.mesh.specs.Filled.{Fits}
use Rattle.work.specs.Working.{Roomed}
use Rattle.mesh.specs.Blocks.{Indices, LentIndices}
use Rattle.mesh_calls.specs.declared.Job.{Job}
use Rattle.mesh_calls.specs.Jobs.{job_numbers, job_call}
use Rattle.job_replies.specs.Outcomes.{OutcomeReplied, with_rooms}

-- a job on an image was answered, in the bytes that were lent for the result and for the log
abbrev pub JobReplied : Job → Indices → Indices → Rooms → LentIndices → LentIndices → ℕ → Type 0
JobReplied job list bytes room out log r =
    OutcomeReplied (job_call job list.entry.now (image_sized_of bytes.entry.now) (mesh_of (image_of bytes.entry.now)) (as_rooms room)) (length out.entry.now) (length log.entry.now) r out.exit.now log.exit.now

-- the same beside the bytes of rooms, which are four words or a bad argument
abbrev pub CallReplied : Job → Indices → Indices → Indices → Rooms → LentIndices → LentIndices → ℕ → Type 0
CallReplied job list bytes rooms room out log r =
    OutcomeReplied (with_rooms bytes.entry.now rooms.entry.now (job_numbers job) (job_call job list.entry.now (image_sized_of bytes.entry.now) (mesh_of (image_of bytes.entry.now)) (as_rooms room))) (length out.entry.now) (length log.entry.now) r out.exit.now log.exit.now

-- ---- rooms that are cut down

-- the rooms, each at most what middling blocks have
unfoldable pub middling_rooms_of : Rooms → Rooms
middling_rooms_of R = record { particles = min 256 R.particles; triangles = min 256 R.triangles; edges = min 512 R.edges; boundary = min 512 R.boundary; log = min 512 R.log }

-- rooms that middling blocks have
pub record Middling (R : Rooms) : Type 0 where
  pub particles : R.particles ≤ 256
  pub triangles : R.triangles ≤ 256
  pub edges : R.edges ≤ 512
  pub boundary : R.boundary ≤ 512
  pub log : R.log ≤ 512

-- blocks of these lengths have room for an image, and with a log of w words for rooms; none is longer than the most that a mesh may have asks for
pub record BlocksRoom (s : List ℕ) (R : Rooms) (p r c v e o w : ℕ) : Type 0 where
  pub image : Fits (sizes (image_of s)) (record { points = p; roots = r; corners = c; volumes = v; ends = e; lengths = e; outline = o; log = 0 })
  pub rooms : Roomed R (record { points = p; roots = r; corners = c; volumes = v; ends = e; lengths = e; outline = o; log = w })
  pub few_points : p ≤ 8192
  pub few_roots : r ≤ 2048
  pub few_corners : c ≤ 3072
  pub few_volumes : v ≤ 2048
  pub few_ends : e ≤ 8192
  pub few_outline : o ≤ 4096
  pub few_words : w ≤ 24576
