-- What the workers ask and promise. Only the contracts between workers, and theorems, need this file. Definitions only.
use Rattle.std.specs.Prelude.{ℕ, zero, suc, ◌+◌, ◌<◌, ◌≡◌, Bool, true, false, ◌&&◌, eqb, List, [], ◌∷◌, length, Option as Opt, None, Some}
use Rattle.std.proofs.Math.Option.{Option, none, some}
use Rattle.lists.specs.Lists.{pick, each, same_row_of}
use Rattle.listing.specs.Work.{Appends}
use Rattle.differences.specs.Differences.{Difference, counts, place, blades, line_of}
use Rattle.differences.specs.declared.Part.{Part}
use Rattle.differences.specs.declared.Part.TheVariants.{Particles, Triangles, Edges, Boundary}
use Rattle.differences.specs.declared.lines.Lines.{Lines}
use Rattle.differences.specs.declared.lines.Four.{Four}

-- the reading of place k of a list, where it has one
abbrev pub read_at : List (List ℕ) → ℕ → Option (List ℕ)
read_at [] k = none
read_at (r ∷ a) zero = some r
read_at (r ∷ a) (suc k) = read_at a k

-- the same reading of a place
abbrev pub same_reading_of : Option (List ℕ) → Option (List ℕ) → Bool
same_reading_of none none = true
same_reading_of none (some s) = false
same_reading_of (some r) none = false
same_reading_of (some r) (some s) = same_row_of r s

-- the difference at a place, if its readings differ
unfoldable pub place_differs : Part → ℕ → Option (List ℕ) → Option (List ℕ) → List Difference
place_differs p k r s = pick (same_reading_of r s) [] (place p k r s ∷ [])

-- ---- the differences of one place

-- the same list
abbrev pub same_part : Part → Part → Bool
same_part Particles Particles = true
same_part Particles Triangles = false
same_part Particles Edges = false
same_part Particles Boundary = false
same_part Triangles Particles = false
same_part Triangles Triangles = true
same_part Triangles Edges = false
same_part Triangles Boundary = false
same_part Edges Particles = false
same_part Edges Triangles = false
same_part Edges Edges = true
same_part Edges Boundary = false
same_part Boundary Particles = false
same_part Boundary Triangles = false
same_part Boundary Edges = false
same_part Boundary Boundary = true

-- does a difference tell of place k of a list; of a list's count; of the blade
abbrev pub of_place : Part → ℕ → Difference → Bool
of_place p k (counts q m n) = false
of_place p k (place q j r s) = same_part p q && eqb j k
of_place p k (blades a b) = false

abbrev pub of_count : Part → Difference → Bool
of_count p (counts q m n) = same_part p q
of_count p (place q j r s) = false
of_count p (blades a b) = false

abbrev pub of_blade : Difference → Bool
of_blade (counts q m n) = false
of_blade (place q j r s) = false
of_blade (blades a b) = true

-- a difference with its readings exchanged
abbrev pub turn : Difference → Difference
turn (counts p m n) = counts p n m
turn (place p k r s) = place p k s r
turn (blades a b) = blades b a

-- ---- readings as the code has them

-- the row of fields x, y, z: a boundary entry has the first two
abbrev pub row_by : Part → ℕ → ℕ → ℕ → List ℕ
row_by Particles x y z = x ∷ y ∷ z ∷ []
row_by Triangles x y z = x ∷ y ∷ z ∷ []
row_by Edges x y z = x ∷ y ∷ z ∷ []
row_by Boundary x y z = x ∷ y ∷ []

abbrev pub as_row : Part → Opt (ℕ × ℕ × ℕ) → Option (List ℕ)
as_row p None = none
as_row p (Some (x, y, z)) = some (row_by p x y z)

-- the first two fields of a particle are coordinates' fields
abbrev pub Coords : Part → ℕ → ℕ → Type 0
Coords Particles x y = (x < 2048) × (y < 2048)
Coords Triangles x y = Unit {0}
Coords Edges x y = Unit {0}
Coords Boundary x y = Unit {0}

abbrev pub CoordsRead : Part → Opt (ℕ × ℕ × ℕ) → Type 0
CoordsRead p None = Unit {0}
CoordsRead p (Some (x, y, z)) = Coords p x y

-- what the line of a place asks
pub record Placing (p : Part) (r s : Opt (ℕ × ℕ × ℕ)) (count : ℕ) : Type 0 where
  pub first : CoordsRead p r
  pub second : CoordsRead p s
  pub few : count < 4096

-- the fields of a blade
abbrev pub four_of : Four → List ℕ
four_of f = f.x0 ∷ f.y0 ∷ f.x1 ∷ f.y1 ∷ []

pub record FourFits (f : Four) : Type 0 where
  pub x0 : f.x0 < 2048
  pub y0 : f.y0 < 2048
  pub x1 : f.x1 < 2048
  pub y1 : f.y1 < 2048

-- what the line of the blades asks
pub record Blading (a b : Four) (count : ℕ) : Type 0 where
  pub first : FourFits a
  pub second : FourFits b
  pub few : count < 4096

-- the lines of differences went behind the text, and were counted
pub record Lists (ds : List Difference) (s : List ℕ) (l : Lines) (s' : List ℕ) (l' : Lines) : Type 0 where
  pub text : Appends (each line_of ds) s l.at s' l'.at
  pub counted : l'.count ≡ l.count + length ds
