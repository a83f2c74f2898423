-- L1 (docs/RULES.md, R23): the differences of two sheets, place by place, and their text. Definitions only.
use Rattle.std.specs.Prelude.{ℕ, suc, Bool, true, false, ◌&&◌, List, [], ◌∷◌, ◌++◌, map, length, get_or, eqb, ℤ, pos, negsuc}
use Rattle.std.proofs.Math.Option.{Option, none, some}
use Rattle.lists.specs.Lists.{pick, each, same_row_of}
use Rattle.listing.specs.Listing.{decimal}
use Rattle.sheet.specs.Sheet.{Sheet, coord}
use Rattle.differences.specs.declared.Part.{Part}
use Rattle.differences.specs.declared.Part.TheVariants.{Particles, Triangles, Edges, Boundary}

-- a difference, with the reading of the first sheet and that of the second: of a count; of a place of a list, which one of them may lack; of the blade
pub data Difference : Type 0 where
  counts : Part → ℕ → ℕ → Difference
  place : Part → ℕ → Option (List ℕ) → Option (List ℕ) → Difference
  blades : List ℕ → List ℕ → Difference

-- the rows of a list of a sheet
abbrev pub list_of : Part → Sheet → List (List ℕ)
list_of Particles s = s.particles
list_of Triangles s = s.triangles
list_of Edges s = s.edges
list_of Boundary s = s.boundary

-- the counts of a list
unfoldable pub count_differs : Part → Sheet → Sheet → List Difference
count_differs p a b = pick (eqb (length (list_of p a)) (length (list_of p b))) [] (counts p (length (list_of p a)) (length (list_of p b)) ∷ [])

-- the rows from place k on: both sheets have the place, or one alone
unfoldable pub rows_differ : Part → ℕ → List (List ℕ) → List (List ℕ) → List Difference
rows_differ p k [] [] = []
rows_differ p k (r ∷ a) [] = place p k (some r) none ∷ rows_differ p (suc k) a []
rows_differ p k [] (s ∷ b) = place p k none (some s) ∷ rows_differ p (suc k) [] b
rows_differ p k (r ∷ a) (s ∷ b) = pick (same_row_of r s) (rows_differ p (suc k) a b) (place p k (some r) (some s) ∷ rows_differ p (suc k) a b)

-- the lists in their order
abbrev pub parts : List Part
parts = Particles ∷ Triangles ∷ Edges ∷ Boundary ∷ []

-- every difference of two sheets: counts, then particles, triangles, edges, boundary, then the blade
unfoldable pub differences : Sheet → Sheet → List Difference
differences a b =
    each (λ (p : Part). count_differs p a b) parts ++ each (λ (p : Part). rows_differ p 0 (list_of p a) (list_of p b)) parts
    ++ pick (same_row_of a.blade b.blade) [] (blades a.blade b.blade ∷ [])

-- ---- the text

-- `count`
abbrev pub count_word : List ℕ
count_word = 99 ∷ 111 ∷ 117 ∷ 110 ∷ 116 ∷ []

-- `particles`, `triangles`, `edges`, `boundary`
abbrev pub plural_of : Part → List ℕ
plural_of Particles = 112 ∷ 97 ∷ 114 ∷ 116 ∷ 105 ∷ 99 ∷ 108 ∷ 101 ∷ 115 ∷ []
plural_of Triangles = 116 ∷ 114 ∷ 105 ∷ 97 ∷ 110 ∷ 103 ∷ 108 ∷ 101 ∷ 115 ∷ []
plural_of Edges = 101 ∷ 100 ∷ 103 ∷ 101 ∷ 115 ∷ []
plural_of Boundary = 98 ∷ 111 ∷ 117 ∷ 110 ∷ 100 ∷ 97 ∷ 114 ∷ 121 ∷ []

-- `particle`, `triangle`, `edge`, `boundary`
abbrev pub word_of : Part → List ℕ
word_of Particles = 112 ∷ 97 ∷ 114 ∷ 116 ∷ 105 ∷ 99 ∷ 108 ∷ 101 ∷ []
word_of Triangles = 116 ∷ 114 ∷ 105 ∷ 97 ∷ 110 ∷ 103 ∷ 108 ∷ 101 ∷ []
word_of Edges = 101 ∷ 100 ∷ 103 ∷ 101 ∷ []
word_of Boundary = 98 ∷ 111 ∷ 117 ∷ 110 ∷ 100 ∷ 97 ∷ 114 ∷ 121 ∷ []

-- `blade`
abbrev pub blade_word : List ℕ
blade_word = 98 ∷ 108 ∷ 97 ∷ 100 ∷ 101 ∷ []

-- a whole number: a minus sign where it is below 0, then the digits of its size
abbrev pub signed : ℤ → List ℕ
signed (pos n) = decimal n
signed (negsuc n) = 45 ∷ decimal (suc n)

-- a coordinate's field
abbrev pub coord_text : ℕ → List ℕ
coord_text n = signed (coord n)

-- the fields of a row: a particle's first two are coordinates
abbrev pub texts_of : Part → List ℕ → List (List ℕ)
texts_of Particles r = coord_text (get_or r 0 0) ∷ coord_text (get_or r 1 0) ∷ decimal (get_or r 2 0) ∷ []
texts_of Triangles r = map decimal r
texts_of Edges r = map decimal r
texts_of Boundary r = map decimal r

-- a reading: the fields, or `-` where the sheet has no such place
abbrev pub reading_of : Part → Option (List ℕ) → List (List ℕ)
reading_of p none = (45 ∷ []) ∷ []
reading_of p (some r) = texts_of p r

-- a word behind a space
abbrev pub apart : List ℕ → List ℕ
apart text = 32 ∷ text

-- the two readings, ` /` between them, and the byte that ends a line
abbrev pub both_readings : List (List ℕ) → List (List ℕ) → List ℕ
both_readings a b = each apart a ++ (32 ∷ 47 ∷ []) ++ each apart b ++ (10 ∷ [])

-- the line of a difference
unfoldable pub line_of : Difference → List ℕ
line_of (counts p m n) = count_word ++ apart (plural_of p) ++ both_readings (decimal m ∷ []) (decimal n ∷ [])
line_of (place p k r s) = word_of p ++ apart (decimal k) ++ both_readings (reading_of p r) (reading_of p s)
line_of (blades a b) = blade_word ++ both_readings (map coord_text a) (map coord_text b)

-- every line, and at the end how many
unfoldable pub difference_text : List Difference → List ℕ
difference_text ds = each line_of ds ++ decimal (length ds) ++ (10 ∷ [])
