-- L13 (docs/RULES.md, R13): what reading a sheet of either edition leaves: the rooms, the answer, and every place of the lent blocks. Definitions only.
use Rattle.std.specs.Prelude.{ℕ, ◌/◌, ◌≡◌, Bool, cond, ◌&&◌, List, [], length, leb, Float, Result, Ok, Err}
use Rattle.lists.specs.Lists.{padded}
use Rattle.float.specs.Numbers.{zero32}
use Rattle.mesh.specs.Log.{World}
use Rattle.mesh.specs.Given as G
use Rattle.mesh.specs.Filled as F
use Rattle.mesh.specs.Widths.{point_columns, corner_columns, end_columns, length_columns, root_columns, volume_columns, side_columns}
use Rattle.bits.specs.Bits.{bits_of}
use Rattle.sheet.specs.Read.{mesh_of_sheet, blade_of_sheet}
use Rattle.sheet.specs.declared.Counts.{Counts}
use Rattle.edition.specs.Edition.{sheet_of, seen_of, whole_with}
use Rattle.edition.specs.declared.Seen.{Seen}
use Rattle.mesh.specs.declared.refusals.Refusal.{Refusal}
use Rattle.mesh.specs.declared.refusals.Refusal.TheVariants.{Argument, Particles, Edges, Boundary}

-- what a reader answers that was lent these places: triangle (or blade) places too few 4; then particles 5, edges 6, boundary 7
unfoldable pub room_for : Counts → Bool → G.Lent → ℕ → Result Seen Refusal
room_for c replaced L blade =
    cond ((leb c.triangles (L.corners / corner_columns) && leb c.triangles (L.volumes / volume_columns)) && leb 4 blade)
    (cond (leb c.particles (L.points / point_columns) && leb c.particles (L.roots / root_columns))
    (cond (leb c.edges (L.ends / end_columns) && leb c.edges (L.lengths / length_columns))
    (cond (leb c.boundary (L.outline / side_columns)) (whole_with c replaced) (Err Boundary))
    (Err Edges))
    (Err Particles))
    (Err Argument)

-- the same where the sheet itself is not refused
unfoldable pub lent_of : Result Seen Refusal → G.Lent → ℕ → Result Seen Refusal
lent_of (Ok k) L blade = room_for k.counts k.replaced L blade
lent_of (Err n) L blade = Err n

-- the mesh and the log that an answer leaves: the mesh of the sheet as it is read, or nothing
unfoldable pub world_of : Result Seen Refusal → List ℕ → World
world_of (Ok k) l = record { mesh = mesh_of_sheet (sheet_of l).sheet; log = [] }
world_of (Err n) l = record { mesh = record { particles = []; triangles = []; edges = []; boundary = [] }; log = [] }

-- the blade that an answer leaves
unfoldable pub blade_left : Result Seen Refusal → List ℕ → List Float
blade_left (Ok k) l = blade_of_sheet (sheet_of l).sheet
blade_left (Err n) l = []

-- what a reader answers, and every place that it was lent
pub record ReadDone (limits : Counts) (s : List ℕ) (L : G.Lent) (r : Result Seen Refusal) (p : List Float) (q c : List ℕ) (v : List Float) (e : List ℕ) (l : List Float) (o g : List ℕ) (b b' : List Float) : Type 0 where
  pub answer : r ≡ lent_of (seen_of limits s) L (length b)
  pub blocks : F.Filled (world_of r (bits_of s)) L p q c v e l o g
  pub blade : b' ≡ padded (length b) zero32 (blade_left r (bits_of s))
