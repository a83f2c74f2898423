-- What the workers ask and promise. Only the contracts between workers, and theorems, need this file. Definitions only.
use Rattle.std.specs.Prelude.{ℕ, ◌≤◌, ◌≡◌, eqb, List, [], ◌∷◌, ◌++◌, length, drop, Some, Result, Ok, Err}
use Rattle.lists.specs.Lists.{pick, same_row_of}
use Rattle.bits.specs.Bits.{bits_of}
use Rattle.bits.specs.Rows.{unpack}
use Rattle.outline_tables.specs.Rows.{sides_at}
use Rattle.sheet.specs.Sheet.{Sheet, FitSheet, limits, counts_at, counts_of, blade_w}
use Rattle.sheet.specs.declared.Counts.{Counts}
use Rattle.edition.specs.Edition.{bits_in_of, seen_of}
use Rattle.edition.specs.Work.{TypedIn}
use Rattle.mesh.specs.declared.refusals.Refusal.{Refusal}
use Rattle.mesh.specs.Refused.{number_of}
use Rattle.edition.specs.declared.Seen.{Seen}
use Rattle.listing.specs.Listing.{refused_bytes}
use Rattle.differences.specs.Differences.{Difference, counts, blades, rows_differ, differences, difference_text}
use Rattle.differing.specs.Differed.{read_sheet}
use Rattle.differences.specs.declared.Part.{Part}
use Rattle.differences.specs.declared.Part.TheVariants.{Particles, Triangles, Edges, Boundary}
use Rattle.differences.specs.declared.lines.Lines.{Lines}
use Rattle.differences.specs.declared.lines.Four.{Four}
use Rattle.differences.specs.Work.{four_of, FourFits}

-- ---- two whole sheets

-- before the first line
abbrev pub start : Lines
start = record { at = Some 0; count = 0 }

-- the difference of a count, where it differs
abbrev pub one_count : Part → ℕ → ℕ → List Difference
one_count p m n = pick (eqb m n) [] (counts p m n ∷ [])

abbrev pub count_lines : Counts → Counts → List Difference
count_lines c d = one_count Particles c.particles d.particles ++ one_count Triangles c.triangles d.triangles ++ one_count Edges c.edges d.edges ++ one_count Boundary c.boundary d.boundary

abbrev pub list_lines : Sheet → Sheet → List Difference
list_lines a b = rows_differ Particles 0 a.particles b.particles ++ rows_differ Triangles 0 a.triangles b.triangles ++ rows_differ Edges 0 a.edges b.edges

abbrev pub rest_lines : Sheet → Sheet → List Difference
rest_lines a b = rows_differ Boundary 0 a.boundary b.boundary ++ pick (same_row_of a.blade b.blade) [] (blades a.blade b.blade ∷ [])

-- a blade's fields, read
pub record BladeRead (l : List ℕ) (at : ℕ) (f : Four) : Type 0 where
  pub is : four_of f ≡ unpack blade_w (drop at l)
  pub fits : FourFits f

-- a sheet within the program's limits, all of whose fields hold their numbers
pub record Within (s : Sheet) : Type 0 where
  pub fits : FitSheet s
  pub particles : length s.particles ≤ 128
  pub triangles : length s.triangles ≤ 128
  pub edges : length s.edges ≤ 256
  pub boundary : length s.boundary ≤ 256

-- a whole sheet with counts c, whose outline stands at the front of a block
pub record FirstIn (s : List ℕ) (c : Counts) (o : List ℕ) : Type 0 where
  pub typed : TypedIn s (counts_at (bits_in_of (bits_of s)))
  pub counts : counts_of (read_sheet s) ≡ c
  pub within : Within (read_sheet s)
  pub sides : sides_at c.boundary o ≡ (read_sheet s).boundary
  pub block : length o ≡ 6144

-- two such sheets, and how many lines there are at most
pub record Going (s : List ℕ) (c : Counts) (o t : List ℕ) (d : Counts) (u : List ℕ) (most count : ℕ) : Type 0 where
  pub first : FirstIn s c o
  pub second : FirstIn t d u
  pub few : count ≤ most

-- what is printed where the first sheet is whole
abbrev pub seconded : Result Seen Refusal → List ℕ → List ℕ → List ℕ
seconded (Err e) a b = refused_bytes (number_of e)
seconded (Ok d) a b = difference_text (differences (read_sheet a) (read_sheet b))

abbrev pub second_text : List ℕ → List ℕ → List ℕ
second_text a b = seconded (seen_of limits b) a b
