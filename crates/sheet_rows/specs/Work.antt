-- Helper definitions and records that only the contracts on rows read into blocks, and proofs, need.
use Rattle.std.specs.Prelude.{ℕ, ◌+◌, ◌*◌, ◌/◌, ◌<◌, ◌≤◌, ◌≡◌, true, false, List, length}
use Rattle.blade.specs.declared.Point.{Point}
use Rattle.model.specs.Mesh.{Particle, Triangle, Edge, Side}
use Rattle.mesh.specs.Workers.{ParticleRoom, EdgeRoom}
use Rattle.mesh.specs.Widths.{point_columns, corner_columns, volume_columns, side_columns}
use Rattle.bits.specs.Bits.{bits_of, field_at}
use Rattle.sheet.specs.Read.{particle_from, triangle_from, edge_from, side_from}
use Rattle.sheet.specs.Work.{ok_at_of, RowsIn}

-- particle k, by the places of its fields
abbrev pub particle_bits : List ℕ → ℕ → ℕ → Particle
particle_bits l at k = particle_from k (field_at l (at + k * 23) 11) (field_at l (at + k * 23 + 11) 11) (field_at l (at + k * 23 + 22) 1)

-- triangle k, by the places of its fields
abbrev pub triangle_bits : (ℕ → Point) → List ℕ → ℕ → ℕ → Triangle
triangle_bits place l at k = triangle_from place (field_at l (at + k * 30) 10) (field_at l (at + k * 30 + 10) 10) (field_at l (at + k * 30 + 20) 10)

-- edge k, by the places of its fields
abbrev pub edge_bits : (ℕ → Point) → List ℕ → ℕ → ℕ → Edge
edge_bits place l at k = edge_from place (field_at l (at + k * 21) 10) (field_at l (at + k * 21 + 10) 10) (field_at l (at + k * 21 + 20) 1)

-- boundary entry k, by the places of its fields
abbrev pub side_bits : List ℕ → ℕ → ℕ → Side
side_bits l at k = side_from (field_at l (at + k * 20) 10) (field_at l (at + k * 20 + 10) 10)

-- n particles' rows lie inside the bytes, and have room in the blocks
pub record ParticlesIn (s : List ℕ) (at n lp lr : ℕ) : Type 0 where
  pub rows : RowsIn s at 23 n
  pub room : ParticleRoom n lp lr

-- fields of a particle that its row can hold, and room for one more
pub record ParticleIn (x y n lp lr : ℕ) : Type 0 where
  pub across : x < 2048
  pub up : y < 2048
  pub room : ParticleRoom (n + 1) lp lr

-- three particles of the points, and room for a triangle more
pub record TriangleIn (a b c lp n lc lv : ℕ) : Type 0 where
  pub first : a < lp / point_columns
  pub second : b < lp / point_columns
  pub third : c < lp / point_columns
  pub corners : n + 1 ≤ lc / corner_columns
  pub volumes : n + 1 ≤ lv / volume_columns

-- n triangles' rows lie inside the bytes, name particles of the points, and have room in the blocks
pub record TrianglesIn (s : List ℕ) (at n p lp lc lv : ℕ) : Type 0 where
  pub rows : RowsIn s at 30 n
  pub names : ok_at_of true p (bits_of s) at 30 n ≡ true
  pub points : p ≤ lp / point_columns
  pub corners : n ≤ lc / corner_columns
  pub volumes : n ≤ lv / volume_columns

-- n edges' rows lie inside the bytes, name particles of the points, and have room in the blocks
pub record EdgesIn (s : List ℕ) (at n p lp le ll : ℕ) : Type 0 where
  pub rows : RowsIn s at 21 n
  pub names : ok_at_of false p (bits_of s) at 21 n ≡ true
  pub points : p ≤ lp / point_columns
  pub room : EdgeRoom n le ll

-- n boundary entries' rows lie inside the bytes, and have room in the block
pub record SidesIn (s : List ℕ) (at n lo : ℕ) : Type 0 where
  pub rows : RowsIn s at 20 n
  pub outline : n ≤ lo / side_columns

-- the blade's fields lie inside the bytes, and have places
pub record BladeIn (s : List ℕ) (at places : ℕ) : Type 0 where
  pub rows : RowsIn s at 11 4
  pub room : 4 ≤ places
