-- A sheet on its way to the fronts of blocks. Only the contracts between workers need this file. Definitions only.
use Rattle.std.specs.Prelude.{ℕ, ◌*◌, ◌≡◌, true, List, take, Float}
use Rattle.mesh.specs.Widths.{point_columns}
use Rattle.mesh.specs.Given.{Given, Lent, given, mesh_of, sizes_fit_of}
use Rattle.bits.specs.Bits.{bits_of}
use Rattle.sheet.specs.Read.{mesh_of_sheet, blade_of_sheet}
use Rattle.sheet.specs.declared.Counts as S
use Rattle.sheet.specs.Sheet.{limits}
use Rattle.edition.specs.Edition.{sheet_of, seen_of, whole_with}

-- blocks have places for the rows of a sheet with these counts, and none besides
pub record Exact (c : S.Counts) (L : Lent) : Type 0 where
  pub points : L.points ≡ point_columns * c.particles
  pub roots : L.roots ≡ 2 * c.particles
  pub corners : L.corners ≡ 3 * c.triangles
  pub volumes : L.volumes ≡ 2 * c.triangles
  pub ends : L.ends ≡ 4 * c.edges
  pub lengths : L.lengths ≡ 4 * c.edges
  pub outline : L.outline ≡ 2 * c.boundary

-- blocks of the sizes that the limits ask for
pub record Ample (L : Lent) : Type 0 where
  pub points : L.points ≡ 128 * point_columns
  pub roots : L.roots ≡ 256
  pub corners : L.corners ≡ 384
  pub volumes : L.volumes ≡ 256
  pub ends : L.ends ≡ 1024
  pub lengths : L.lengths ≡ 1024
  pub outline : L.outline ≡ 512

-- a sheet that is whole, blocks that have room for it, and four places for its blade
pub record Roomy (s : List ℕ) (c : S.Counts) (L : Lent) (blade : ℕ) : Type 0 where
  pub seen : seen_of limits s ≡ whole_with c (sheet_of (bits_of s)).replaced
  pub ample : Ample L
  pub four : blade ≡ 4

-- the fronts of blocks, exactly as long as the lists of a sheet with these counts need
abbrev pub fronts : S.Counts → List Float → List ℕ → List ℕ → List Float → List ℕ → List Float → List ℕ → Given
fronts c p r k v e l o =
    given (take (point_columns * c.particles) p) (take (2 * c.particles) r) (take (3 * c.triangles) k) (take (2 * c.triangles) v) (take (4 * c.edges) e) (take (4 * c.edges) l) (take (2 * c.boundary) o)

-- the fronts are an input whose sizes fit and whose mesh is the sheet's; the blade is the sheet's
pub record FrontsRead (s : List ℕ) (c : S.Counts) (p : List Float) (r k : List ℕ) (v : List Float) (e : List ℕ) (l : List Float) (o : List ℕ) (b : List Float) : Type 0 where
  pub sized : sizes_fit_of (fronts c p r k v e l o) ≡ true
  pub mesh : mesh_of (fronts c p r k v e l o) ≡ mesh_of_sheet (sheet_of (bits_of s)).sheet
  pub blade : b ≡ blade_of_sheet (sheet_of (bits_of s)).sheet
