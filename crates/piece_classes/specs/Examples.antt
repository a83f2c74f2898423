-- Meshes whose pieces are counted by computation, and what is said of a cut. Definitions only; proofs/Examples.antt proves the counts.
use Rattle.std.specs.Prelude.{ℕ, List, [], ◌∷◌, pos, length}
use Rattle.float.specs.Numbers.{zero32, one, half}
use Rattle.blade.specs.declared.Point.{Point}
use Rattle.model.specs.Mesh.{Particle, Triangle, Edge, Mesh}
use Rattle.model.specs.Pieces.{pieces, bodies}
use Rattle.model.specs.Run.{Entry}
use Rattle.model.specs.Calls.{Outcome, refused, done}
use Rattle.model.specs.Starred.{point, free, triangle, listing_mesh}

-- so many bodies, and so many pieces
abbrev pub counts : Mesh → ℕ × ℕ
counts M = (bodies M, pieces M)

-- what is said of a cut: the log, how many particles, bodies and pieces; a refusal's number
pub data Said : Type 0 where
  no_mesh : ℕ → Said
  said : List Entry → ℕ → ℕ × ℕ → Said

abbrev pub told_of : Outcome → Said
told_of (refused n) = no_mesh n
told_of (done M l c) = said l (length M.particles) (counts M)

-- a particle that is pinned
abbrev pub pinned : ℕ → Point → Particle
pinned n p = record { x = p.x; y = p.y; rest_x = p.x; rest_y = p.y; mass = one; inv = zero32; velocity_x = zero32; velocity_y = zero32; root = n; damaged = 0 }

-- the worked listing's mesh with other particles 0 and 2
abbrev pub sheet_with : Particle → Particle → Mesh
sheet_with p q =
    record {
      particles = p ∷ free 1 (point (pos 4) (pos 0)) ∷ q ∷ free 3 (point (pos 0) (pos 4)) ∷ [];
      triangles = listing_mesh.triangles;
      edges = listing_mesh.edges;
      boundary = listing_mesh.boundary;
    }

-- with particle 0 pinned, and with 0 and 2
abbrev pub one_pin : Mesh
one_pin = sheet_with (pinned 0 (point (pos 0) (pos 0))) (free 2 (point (pos 4) (pos 4)))

abbrev pub two_pins : Mesh
two_pins = sheet_with (pinned 0 (point (pos 0) (pos 0))) (pinned 2 (point (pos 4) (pos 4)))

-- the letter's sheet: a square of two triangles that meet on its diagonal, pinned at one end of it
abbrev pub letter_mesh : Mesh
letter_mesh =
    record {
      particles =
          pinned 0 (point (pos 0) (pos 0)) ∷ free 1 (point (pos 1) (pos 0)) ∷ free 2 (point (pos 1) (pos 1)) ∷ free 3 (point (pos 0) (pos 1)) ∷ [];
      triangles = triangle 0 1 2 half ∷ triangle 0 2 3 half ∷ [];
      edges = [];
      boundary = [];
    }

-- five particles under triangles, or under straps
abbrev pub under : List Triangle → List Edge → Mesh
under ts es =
    record {
      particles =
          free 0 (point (pos 0) (pos 0)) ∷ free 1 (point (pos 1) (pos 0)) ∷ free 2 (point (pos 1) (pos 1)) ∷ free 3 (point (pos 0) (pos 1)) ∷ free 4 (point (pos 2) (pos 2)) ∷ [];
      triangles = ts;
      edges = es;
      boundary = [];
    }

abbrev pub triangles : List Triangle → Mesh
triangles ts = under ts []

abbrev pub straps : List Edge → Mesh
straps es = under [] es
