-- The rooms of a call, as four words and the bytes of a log give them, and the refusals that are about them. Only the contracts between the functions need this file. Definitions only.
use Rattle.std.specs.Prelude.{ℕ, ◌*◌, ◌/◌, ◌≤◌, min, Bool, ◌&&◌, List, eqb, leb}
use Rattle.lists.specs.Lists.{pick}
use Rattle.mesh.specs.declared.Rooms.{Rooms}
use Rattle.mesh.specs.Limits.{particle_limit, triangle_limit, edge_limit, boundary_limit, entry_limit}
use Rattle.image.specs.Words.{word_at_of}

-- rooms that are within the limits, and a log that its bytes have room for
pub record Limited (R : Rooms) (logged : ℕ) : Type 0 where
  pub particles : R.particles ≤ particle_limit
  pub triangles : R.triangles ≤ triangle_limit
  pub edges : R.edges ≤ edge_limit
  pub boundary : R.boundary ≤ boundary_limit
  pub log : R.log ≤ entry_limit
  pub entries : 24 * R.log ≤ logged

-- the rooms of four words and of so many log bytes, as the program has them
unfoldable pub rooms_given : List ℕ → ℕ → Rooms
rooms_given s logged = record { particles = min particle_limit (word_at_of s 0); triangles = min triangle_limit (word_at_of s 1); edges = min edge_limit (word_at_of s 2); boundary = min boundary_limit (word_at_of s 3); log = min entry_limit (logged / 24) }

-- the refusal of a job, where the rooms are four words or not: if not, 4 in the place of none and of those behind it
abbrev pub rooms_too : ℕ → Bool → ℕ
rooms_too code sixteen = pick sixteen code (pick (eqb code 0) 4 (min code 4))

-- a refusal that says that a room lacks: for particles, edges, boundary entries or log entries
abbrev pub lacks_room_of : ℕ → Bool
lacks_room_of n = leb 5 n && leb n 8
