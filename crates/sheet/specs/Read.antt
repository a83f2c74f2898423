-- What reading a sheet gives (docs/RULES.md, R13.4). The mesh that a sheet is, and its blade. Definitions only.
use Rattle.std.specs.Prelude.{ℕ, List, [], ◌∷◌, map, get_or, eqb, Float}
use Rattle.std.specs.Float.{binary32}
use Rattle.std.specs.Float.Ieee.{of_int}
use Rattle.lists.specs.Lists.{pick, map_at_of}
use Rattle.float.specs.Numbers.{zero32, one, half, minus, times, abs_of}
use Rattle.blade.specs.declared.Point.{Point}
use Rattle.blade.specs.Points.{minus_of, length_of}
use Rattle.model.specs.Mesh.{Particle, Triangle, Edge, Side, Mesh, blank}
use Rattle.model.specs.Elements.{at}
use Rattle.mesh.specs.declared.Counts as M
use Rattle.sheet.specs.Sheet.{Sheet, coord}
use Rattle.sheet.specs.declared.Counts.{Counts}

-- a coordinate's field as an f32, which holds it exactly
unfoldable pub the_float_of : ℕ → Float
the_float_of n = of_int binary32 (coord n)

-- the inverse mass of a particle with this flag: 0 if pinned, else 1
unfoldable pub the_inverse_of : ℕ → Float
the_inverse_of pinned = pick (eqb pinned 1) zero32 one

-- particle k from its fields: rest position equal to position, mass 1, velocity 0, own root
unfoldable pub particle_from : ℕ → ℕ → ℕ → ℕ → Particle
particle_from k x y pinned =
    record {
      x = the_float_of x;
      y = the_float_of y;
      rest_x = the_float_of x;
      rest_y = the_float_of y;
      mass = one;
      inv = the_inverse_of pinned;
      velocity_x = zero32;
      velocity_y = zero32;
      root = k;
      damaged = 0;
    }

-- half the absolute cross product
unfoldable pub area_of : Point → Point → Point → Float
area_of a b c = times (abs_of (minus (times (minus b.x a.x) (minus c.y a.y)) (times (minus b.y a.y) (minus c.x a.x)))) half

-- a triangle of three particles, from where particles stand
unfoldable pub triangle_from : (ℕ → Point) → ℕ → ℕ → ℕ → Triangle
triangle_from place a b c = record { corners = a ∷ b ∷ c ∷ []; volume = area_of (place a) (place b) (place c); stress = zero32 }

-- an edge between two particles: both rest lengths are the rounded root
unfoldable pub edge_from : (ℕ → Point) → ℕ → ℕ → ℕ → Edge
edge_from place a b structural =
    record {
      a = a;
      b = b;
      structural = structural;
      torn = 0;
      rest = length_of (minus_of (place b) (place a));
      initial = length_of (minus_of (place b) (place a));
      impulse = zero32;
      stress = zero32;
    }

-- a boundary entry
abbrev pub side_from : ℕ → ℕ → Side
side_from a b = record { corners = a ∷ b ∷ [] }

-- the particles of rows
unfoldable pub particles_from : List (List ℕ) → List Particle
particles_from rows = map_at_of (λ k r. particle_from k (get_or r 0 0) (get_or r 1 0) (get_or r 2 0)) rows

-- the triangles of rows
unfoldable pub triangles_from : (ℕ → Point) → List (List ℕ) → List Triangle
triangles_from place rows = map (λ r. triangle_from place (get_or r 0 0) (get_or r 1 0) (get_or r 2 0)) rows

-- the edges of rows
unfoldable pub edges_from : (ℕ → Point) → List (List ℕ) → List Edge
edges_from place rows = map (λ r. edge_from place (get_or r 0 0) (get_or r 1 0) (get_or r 2 0)) rows

-- the boundary of rows
unfoldable pub boundary_from : List (List ℕ) → List Side
boundary_from rows = map (λ r. side_from (get_or r 0 0) (get_or r 1 0)) rows

-- where particle k of a list stands
abbrev pub place_in : List Particle → ℕ → Point
place_in ps k = at (get_or ps k blank)

-- the mesh that a sheet is
unfoldable pub mesh_of_sheet : Sheet → Mesh
mesh_of_sheet s =
    record {
      particles = particles_from s.particles;
      triangles = triangles_from (place_in (particles_from s.particles)) s.triangles;
      edges = edges_from (place_in (particles_from s.particles)) s.edges;
      boundary = boundary_from s.boundary;
    }

-- the blade of a sheet: x0, y0, x1, y1
unfoldable pub blade_of_sheet : Sheet → List Float
blade_of_sheet s = map the_float_of s.blade

-- a sheet's counts as those of a mesh, with an empty log
abbrev pub counts_for : Counts → M.Counts
counts_for c = record { particles = c.particles; triangles = c.triangles; edges = c.edges; boundary = c.boundary; log = 0 }
