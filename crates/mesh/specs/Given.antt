-- An input: seven blocks, their sizes, the mesh that they are; and the rooms of lent blocks. Definitions only.
use Rattle.std.specs.Prelude.{ℕ, ◌/◌, ◌%◌, min, Bool, ◌&&◌, List, length, eqb, leb, Float}
use Rattle.model.specs.Mesh.{Mesh}
use Rattle.model.specs.Run as M
use Rattle.mesh.specs.At.{mesh_at}
use Rattle.mesh.specs.declared.Counts.{Counts}
use Rattle.mesh.specs.declared.Rooms.{Rooms}
use Rattle.mesh.specs.Widths.{point_columns, corner_columns, end_columns, length_columns, root_columns, volume_columns, side_columns, entry_words}
use Rattle.mesh.specs.Limits.{particle_limit, triangle_limit, edge_limit, boundary_limit, entry_limit}

-- the blocks of an input
pub record Given : Type 0 where
  pub points : List Float
  pub roots : List ℕ
  pub corners : List ℕ
  pub volumes : List Float
  pub ends : List ℕ
  pub lengths : List Float
  pub outline : List ℕ

-- seven blocks as an input
abbrev pub given : List Float → List ℕ → List ℕ → List Float → List ℕ → List Float → List ℕ → Given
given p r c v e l o = record { points = p; roots = r; corners = c; volumes = v; ends = e; lengths = l; outline = o }

-- how many rows each list has, by the length of its first block
abbrev pub sizes : Given → Counts
sizes G = record { particles = length G.points / point_columns; triangles = length G.corners / corner_columns; edges = length G.ends / end_columns; boundary = length G.outline / side_columns; log = 0 }

-- the mesh that an input is
unfoldable pub mesh_of : Given → Mesh
mesh_of G = mesh_at (sizes G) G.points G.roots G.corners G.volumes G.ends G.lengths G.outline

-- ---- 1: sizes

-- two blocks of one list have columns of a and of b places, with `over` places left over: nothing is left over, and the columns are equally long, at most the limit
unfoldable pub list_fits_of : ℕ → ℕ → ℕ → ℕ → ℕ → Bool
list_fits_of limit over_a a over_b b = eqb over_a 0 && eqb over_b 0 && eqb a b && leb a limit

-- at most 1,024 particles, 1,024 triangles, 2,048 edges and 2,048 boundary entries, and each list's columns equally long
unfoldable pub lengths_fit : ℕ → ℕ → ℕ → ℕ → ℕ → ℕ → ℕ → Bool
lengths_fit lp lr lc lv le ll lo =
    list_fits_of particle_limit (lp % point_columns) (lp / point_columns) (lr % root_columns) (lr / root_columns) && list_fits_of triangle_limit (lc % corner_columns) (lc / corner_columns) (lv % volume_columns) (lv / volume_columns) && list_fits_of edge_limit (le % end_columns) (le / end_columns) (ll % length_columns) (ll / length_columns)
    && list_fits_of boundary_limit (lo % side_columns) (lo / side_columns) 0 (lo / side_columns)

-- the same of an input's blocks
abbrev pub sizes_fit_of : Given → Bool
sizes_fit_of G = lengths_fit (length G.points) (length G.roots) (length G.corners) (length G.volumes) (length G.ends) (length G.lengths) (length G.outline)

-- ---- the rooms of lent blocks

-- how many places each lent block has
pub record Lent : Type 0 where
  pub points : ℕ
  pub roots : ℕ
  pub corners : ℕ
  pub volumes : ℕ
  pub ends : ℕ
  pub lengths : ℕ
  pub outline : ℕ
  pub log : ℕ

-- a list's room is its shortest lent column, and at most the limit
abbrev pub rooms_of : Lent → Rooms
rooms_of L =
    record {
      particles = min particle_limit (min (L.points / point_columns) (L.roots / root_columns));
      triangles = min triangle_limit (min (L.corners / corner_columns) (L.volumes / volume_columns));
      edges = min edge_limit (min (L.ends / end_columns) (L.lengths / length_columns));
      boundary = min boundary_limit (L.outline / side_columns);
      log = min entry_limit (L.log / entry_words);
    }

-- the rooms of the program as the definitions name them
abbrev pub as_rooms : Rooms → M.Rooms
as_rooms r = record { particles = r.particles; triangles = r.triangles; edges = r.edges; boundary = r.boundary; log = r.log }
