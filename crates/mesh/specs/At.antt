-- How seven blocks are read as a mesh: row k has, of each column, what stands there at place k. The columns of a block are as long as its length by its width. Definitions only.
use Rattle.std.specs.Prelude.{ℕ, ◌/◌, List, length, Float}
use Rattle.std.specs.Float.{nan}
use Rattle.lists.specs.Lists.{tab}
use Rattle.columns.specs.Block.{cell, row_at}
use Rattle.model.specs.Mesh.{Particle, Triangle, Edge, Side, Mesh}
use Rattle.mesh.specs.declared.Counts.{Counts}
use Rattle.mesh.specs.Widths.{point_columns, corner_columns, side_columns, end_columns, length_columns, root_columns, volume_columns}

-- ---- one row

-- the particle with these numbers, by column, this root and this damaged flag
abbrev pub particle_by : (ℕ → Float) → ℕ → ℕ → Particle
particle_by f r d =
    record { x = f 0; y = f 1; rest_x = f 2; rest_y = f 3; mass = f 4; inv = f 5; velocity_x = f 6; velocity_y = f 7; root = r; damaged = d }

-- particle k, of columns of P and of R places
abbrev pub particle_row : ℕ → ℕ → List Float → List ℕ → ℕ → Particle
particle_row P R points roots k = particle_by (λ c. cell nan P points c k) (cell 0 R roots 0 k) (cell 0 R roots 1 k)

-- triangle k, of columns of C and of W places
abbrev pub triangle_row : ℕ → ℕ → List ℕ → List Float → ℕ → Triangle
triangle_row C W corners volumes k =
    record { corners = row_at corner_columns C corners k; volume = cell nan W volumes 0 k; stress = cell nan W volumes 1 k }

-- edge k, of columns of E and of L places
abbrev pub edge_row : ℕ → ℕ → List ℕ → List Float → ℕ → Edge
edge_row E L ends lengths k =
    record {
      a = cell 0 E ends 0 k;
      b = cell 0 E ends 1 k;
      structural = cell 0 E ends 2 k;
      torn = cell 0 E ends 3 k;
      rest = cell nan L lengths 0 k;
      initial = cell nan L lengths 1 k;
      impulse = cell nan L lengths 2 k;
      stress = cell nan L lengths 3 k;
    }

-- boundary entry k, of columns of O places
abbrev pub side_row : ℕ → List ℕ → ℕ → Side
side_row O outline k = record { corners = row_at side_columns O outline k }

-- ---- the first n rows

-- the first n particles
unfoldable pub particles_at : ℕ → List Float → List ℕ → List Particle
particles_at n points roots = tab n (particle_row (length points / point_columns) (length roots / root_columns) points roots)

-- the first n triangles
unfoldable pub triangles_at : ℕ → List ℕ → List Float → List Triangle
triangles_at n corners volumes = tab n (triangle_row (length corners / corner_columns) (length volumes / volume_columns) corners volumes)

-- the first n edges
unfoldable pub edges_at : ℕ → List ℕ → List Float → List Edge
edges_at n ends lengths = tab n (edge_row (length ends / end_columns) (length lengths / length_columns) ends lengths)

-- the first n boundary entries
unfoldable pub boundary_at : ℕ → List ℕ → List Side
boundary_at n outline = tab n (side_row (length outline / side_columns) outline)

-- the mesh that the fronts of seven blocks hold
unfoldable pub mesh_at : Counts → List Float → List ℕ → List ℕ → List Float → List ℕ → List Float → List ℕ → Mesh
mesh_at k points roots corners volumes ends lengths outline =
    record {
      particles = particles_at k.particles points roots;
      triangles = triangles_at k.triangles corners volumes;
      edges = edges_at k.edges ends lengths;
      boundary = boundary_at k.boundary outline;
    }
