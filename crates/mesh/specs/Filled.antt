-- What a call leaves in the lent blocks: a mesh and a log in their fronts, and 0 in every place behind. Definitions only.
use Rattle.std.specs.Prelude.{ℕ, zero, suc, ◌/◌, ◌≤◌, ◌≡◌, List, map, length, get_or, Float}
use Rattle.lists.specs.Lists.{padded}
use Rattle.float.specs.Numbers.{zero32}
use Rattle.columns.specs.Block.{block_of}
use Rattle.model.specs.Mesh.{Particle, Triangle, Edge, Side}
use Rattle.mesh.specs.Log.{World, words_in}
use Rattle.mesh.specs.Given.{Lent}
use Rattle.mesh.specs.declared.Counts.{Counts}
use Rattle.mesh.specs.Widths.{point_columns, corner_columns, end_columns, length_columns, root_columns, volume_columns, side_columns, entry_words}

-- ---- the columns of each block, by their numbers

-- of points
abbrev pub point_of : ℕ → Particle → Float
point_of zero p = p.x
point_of (suc zero) p = p.y
point_of (suc (suc zero)) p = p.rest_x
point_of (suc (suc (suc zero))) p = p.rest_y
point_of (suc (suc (suc (suc zero)))) p = p.mass
point_of (suc (suc (suc (suc (suc zero))))) p = p.inv
point_of (suc (suc (suc (suc (suc (suc zero)))))) p = p.velocity_x
point_of (suc (suc (suc (suc (suc (suc (suc c))))))) p = p.velocity_y

-- of roots
abbrev pub root_of : ℕ → Particle → ℕ
root_of zero p = p.root
root_of (suc c) p = p.damaged

-- of corners
abbrev pub corner_of : ℕ → Triangle → ℕ
corner_of c t = get_or t.corners c 0

-- of volumes
abbrev pub volume_of : ℕ → Triangle → Float
volume_of zero t = t.volume
volume_of (suc c) t = t.stress

-- of ends
abbrev pub end_of : ℕ → Edge → ℕ
end_of zero e = e.a
end_of (suc zero) e = e.b
end_of (suc (suc zero)) e = e.structural
end_of (suc (suc (suc c))) e = e.torn

-- of lengths
abbrev pub length_of : ℕ → Edge → Float
length_of zero e = e.rest
length_of (suc zero) e = e.initial
length_of (suc (suc zero)) e = e.impulse
length_of (suc (suc (suc c))) e = e.stress

-- of the outline
abbrev pub side_of : ℕ → Side → ℕ
side_of c s = get_or s.corners c 0

-- ---- lent blocks

-- every place of the lent blocks: the columns of the mesh and the words of the log at the fronts, and 0 in every place behind them
pub record Filled (W : World) (L : Lent) (p : List Float) (r c : List ℕ) (v : List Float) (e : List ℕ) (l : List Float) (o g : List ℕ) : Type 0 where
  pub points : p ≡ block_of L.points point_columns (L.points / point_columns) zero32 (λ k. map (point_of k) W.mesh.particles)
  pub roots : r ≡ block_of L.roots root_columns (L.roots / root_columns) 0 (λ k. map (root_of k) W.mesh.particles)
  pub corners : c ≡ block_of L.corners corner_columns (L.corners / corner_columns) 0 (λ k. map (corner_of k) W.mesh.triangles)
  pub volumes : v ≡ block_of L.volumes volume_columns (L.volumes / volume_columns) zero32 (λ k. map (volume_of k) W.mesh.triangles)
  pub ends : e ≡ block_of L.ends end_columns (L.ends / end_columns) 0 (λ k. map (end_of k) W.mesh.edges)
  pub lengths : l ≡ block_of L.lengths length_columns (L.lengths / length_columns) zero32 (λ k. map (length_of k) W.mesh.edges)
  pub outline : o ≡ block_of L.outline side_columns (L.outline / side_columns) 0 (λ k. map (side_of k) W.mesh.boundary)
  pub log : g ≡ padded L.log 0 (words_in W.log)

-- the counts fit the lent columns
pub record Fits (k : Counts) (L : Lent) : Type 0 where
  pub points : k.particles ≤ L.points / point_columns
  pub roots : k.particles ≤ L.roots / root_columns
  pub corners : k.triangles ≤ L.corners / corner_columns
  pub volumes : k.triangles ≤ L.volumes / volume_columns
  pub ends : k.edges ≤ L.ends / end_columns
  pub lengths : k.edges ≤ L.lengths / length_columns
  pub outline : k.boundary ≤ L.outline / side_columns
  pub log : k.log ≤ L.log / entry_words

-- each block of the input has no longer columns than the one lent for it
pub record Holds (I L : Lent) : Type 0 where
  pub points : I.points / point_columns ≤ L.points / point_columns
  pub roots : I.roots / root_columns ≤ L.roots / root_columns
  pub corners : I.corners / corner_columns ≤ L.corners / corner_columns
  pub volumes : I.volumes / volume_columns ≤ L.volumes / volume_columns
  pub ends : I.ends / end_columns ≤ L.ends / end_columns
  pub lengths : I.lengths / length_columns ≤ L.lengths / length_columns
  pub outline : I.outline / side_columns ≤ L.outline / side_columns

-- the lengths of eight lent blocks
abbrev pub lent : List Float → List ℕ → List ℕ → List Float → List ℕ → List Float → List ℕ → List ℕ → Lent
lent p r c v e l o g =
    record { points = length p; roots = length r; corners = length c; volumes = length v; ends = length e; lengths = length l; outline = length o; log = length g }
