-- Request L8 (docs/RULES.md, R22): the mended sheet, its bytes in its own edition, what is said, and the answer to any bytes. Definitions only.
use Rattle.std.specs.Prelude.{ℕ, zero, suc, ◌*◌, Bool, true, false, cond, List, [], ◌∷◌, ◌++◌, length, take, drop, eqb, ltb}
use Rattle.lists.specs.Lists.{each, padded}
use Rattle.bits.specs.Bits.{bits_of, num}
use Rattle.sheet.specs.Sheet.{Sheet, sheet_bits, counts_at, counts_of, too_many_of}
use Rattle.sheet.specs.declared.Counts.{Counts}
use Rattle.edition.specs.Edition.{second, bits_in_of, sheet2_bits, bytes_in, typed_of}
use Rattle.listing.specs.Listing.{spaced, edge_word}
use Rattle.mending.specs.Mending.{Why, absent, twice, double, Drop, mended_rows, mended_boundary, drops_of, doubles_of}
use Rattle.mesh.specs.declared.refusals.Refusal.{Refusal}
use Rattle.mesh.specs.declared.refusals.Refusal.TheVariants.{Size, Sheet as NoSheet}

-- the mended sheet: the kept rows in their order, the same particles and blade
unfoldable pub mended_sheet : Sheet → Sheet
mended_sheet s = record {
  particles = s.particles;
  triangles = mended_rows (length s.particles) 3 s.triangles;
  edges = mended_rows (length s.particles) 2 s.edges;
  boundary = mended_boundary (length s.particles) s.boundary;
  blade = s.blade;
}

-- n bytes from the front of bits
unfoldable pub bytes_from : ℕ → List ℕ → List ℕ
bytes_from zero l = []
bytes_from (suc n) l = num (take 8 l) ∷ bytes_from n (drop 8 l)

-- a sheet's bits in an edition: the second where `true`
unfoldable pub bits_as : Bool → Sheet → List ℕ
bits_as true s = sheet2_bits s
bits_as false s = sheet_bits s

-- a sheet's bytes in an edition: its bits, and 0 in the spare ones
unfoldable pub sheet_bytes : Bool → Sheet → List ℕ
sheet_bytes t s = bytes_from (bytes_in t (counts_of s)) (padded (8 * bytes_in t (counts_of s)) 0 (bits_as t s))

-- ---- what is said

-- `absent`, `twice`, `double`
abbrev pub why_word : Why → List ℕ
why_word absent = 97 ∷ 98 ∷ 115 ∷ 101 ∷ 110 ∷ 116 ∷ []
why_word twice = 116 ∷ 119 ∷ 105 ∷ 99 ∷ 101 ∷ []
why_word double = 100 ∷ 111 ∷ 117 ∷ 98 ∷ 108 ∷ 101 ∷ []

-- `triangle`
abbrev pub triangle_word : List ℕ
triangle_word = 116 ∷ 114 ∷ 105 ∷ 97 ∷ 110 ∷ 103 ∷ 108 ∷ 101 ∷ []

-- `boundary`
abbrev pub boundary_word : List ℕ
boundary_word = 98 ∷ 111 ∷ 117 ∷ 110 ∷ 100 ∷ 97 ∷ 114 ∷ 121 ∷ []

-- the line of a drop: the list's word, the old place, why
unfoldable pub drop_line : List ℕ → Drop → List ℕ
drop_line word d = word ++ (spaced d.place ++ (32 ∷ (why_word d.why ++ (10 ∷ []))))

-- what is said of a sheet: the drops for 3 of each list, then the doubles
unfoldable pub said_of : Sheet → List ℕ
said_of s =
    each (drop_line triangle_word) (drops_of (length s.particles) 3 s.triangles)
    ++ (each (drop_line edge_word) (drops_of (length s.particles) 2 s.edges)
    ++ (each (drop_line boundary_word) (drops_of (length s.particles) 2 s.boundary) ++ each (drop_line boundary_word) (doubles_of (length s.particles) s.boundary)))

-- ---- the answer to any bytes

-- the mended bytes and what is said, or a refusal
pub data Mending : Type 0 where
  mended : List ℕ → List ℕ → Mending
  refused : Refusal → Mending

-- of n bytes of an edition with counts c, whose fields are those of a sheet: counts 1, length 9; spare bits are not looked at, and the edition is kept
unfoldable pub mend_with : Bool → Counts → ℕ → Sheet → Mending
mend_with t c n b = cond (too_many_of c) (refused Size) (cond (eqb n (bytes_in t c)) (mended (sheet_bytes t (mended_sheet b)) (said_of b)) (refused NoSheet))

-- of any bytes: a short header 9; then as above
unfoldable pub mend_of : List ℕ → Mending
mend_of s = cond (ltb (length s) 6) (refused NoSheet) (mend_with (second (bits_of s)) (counts_at (bits_in_of (bits_of s))) (length s) (typed_of (bits_of s)))
