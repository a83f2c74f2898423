-- What the workers ask and promise. Only the contracts between workers need this file. Definitions only.
use Rattle.std.specs.Prelude.{ℕ, ◌≤◌, ◌≡◌, get_or}
use Rattle.std.specs.Float.{nan}
use Rattle.model.specs.Cut.{Line}
use Rattle.mesh.specs.Given.{Given, Lent}
use Rattle.sheet.specs.declared.Counts as S
use Rattle.mesh.specs.Blocks.{Numbers, Indices}
use Rattle.sheet_fronts.specs.Fronts.{Ample, fronts}

-- counts within the program's limits, blocks of the sizes that these ask for, and the four numbers of a blade
pub record Cuttable (c : S.Counts) (L : Lent) (blade : ℕ) : Type 0 where
  pub few_particles : c.particles ≤ 128
  pub few_triangles : c.triangles ≤ 128
  pub few_edges : c.edges ≤ 256
  pub few_boundary : c.boundary ≤ 256
  pub ample : Ample L
  pub four : blade ≡ 4

-- `fronts` of lent blocks, before a call
abbrev pub fronts_before : S.Counts → Numbers → Indices → Indices → Numbers → Indices → Numbers → Indices → Given
fronts_before c points roots corners volumes ends lengths outline =
    fronts c points.entry.now roots.entry.now corners.entry.now volumes.entry.now ends.entry.now lengths.entry.now outline.entry.now

-- the line from the first two numbers of a blade to the next two
abbrev pub line_before : Numbers → Line
line_before blade =
    record {
      from = record { x = get_or blade.entry.now 0 nan; y = get_or blade.entry.now 1 nan };
      to = record { x = get_or blade.entry.now 2 nan; y = get_or blade.entry.now 3 nan };
    }
