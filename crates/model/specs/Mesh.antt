-- A mesh (docs/RULES.md, R2). Nothing here speaks of columns. Definitions only.
use Rattle.std.specs.Prelude.{ℕ, List, [], ◌∷◌, Float}
use Rattle.float.specs.Numbers.{zero32}

-- position, rest position, mass, inverse mass (0 means pinned), velocity, root, damaged flag (0 or 1)
pub record Particle : Type 0 where
  pub x : Float
  pub y : Float
  pub rest_x : Float
  pub rest_y : Float
  pub mass : Float
  pub inv : Float
  pub velocity_x : Float
  pub velocity_y : Float
  pub root : ℕ
  pub damaged : ℕ

-- the particles at its corners (three of them: Valid), rest volume, stress
pub record Triangle : Type 0 where
  pub corners : List ℕ
  pub volume : Float
  pub stress : Float

-- two particles, structural flag, torn flag, rest length, initial rest length, impulse, stress
pub record Edge : Type 0 where
  pub a : ℕ
  pub b : ℕ
  pub structural : ℕ
  pub torn : ℕ
  pub rest : Float
  pub initial : Float
  pub impulse : Float
  pub stress : Float

-- an entry of the boundary: the particles at its corners (two of them: Valid)
pub record Side : Type 0 where
  pub corners : List ℕ

-- the four lists of a mesh
pub record Mesh : Type 0 where
  pub particles : List Particle
  pub triangles : List Triangle
  pub edges : List Edge
  pub boundary : List Side

-- p with another mass, inverse mass and damaged flag: everything else is as p has it
abbrev pub changed_to : Float → Float → ℕ → Particle → Particle
changed_to m w d p =
    record {
      x = p.x;
      y = p.y;
      rest_x = p.rest_x;
      rest_y = p.rest_y;
      mass = m;
      inv = w;
      velocity_x = p.velocity_x;
      velocity_y = p.velocity_y;
      root = p.root;
      damaged = d;
    }

-- the particle, triangle and edge that are read past the end of a list: no accepted mesh names one
abbrev pub blank : Particle
blank =
    record {
      x = zero32;
      y = zero32;
      rest_x = zero32;
      rest_y = zero32;
      mass = zero32;
      inv = zero32;
      velocity_x = zero32;
      velocity_y = zero32;
      root = 0;
      damaged = 0;
    }

abbrev pub blank_triangle : Triangle
blank_triangle = record { corners = 0 ∷ 0 ∷ 0 ∷ []; volume = zero32; stress = zero32 }

abbrev pub blank_edge : Edge
blank_edge = record { a = 0; b = 0; structural = 0; torn = 0; rest = zero32; initial = zero32; impulse = zero32; stress = zero32 }
