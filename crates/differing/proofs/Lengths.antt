-- How long the text of differences is: within the program's limits there are at most 773 lines, of at most 60 bytes each, so that 65,536 bytes hold it. Assumes nothing.
use Prim.Native.Nat.{ℕ, zero, suc, ◌+◌, ◌-◌, ◌*◌, ◌≤◌, ◌<◌}
use native.Mathlib.Omega.{arith}
use native.Mathlib.Decide.{dec_le}
use mathlib.Core.Path.{◌≡◌, sym, ap, subst}
use mathlib.Core.Bool.{Bool, true, false}
use mathlib.Core.List.{List, [], ◌∷◌, ◌++◌, map}
use mathlib.Core.Option.{Option, none, some}
use lib.Dec.{eqb}
use lib.IntN.{ℤ}
use lib.ListN.{length, get_or, length-append}
use Rattle.lists.specs.Lists.{pick, each, rest, same_row_of}
use Rattle.lists.proofs.Sifts.{each_append}
use Rattle.bits.specs.Rows.{Fit, FitAll}
use Rattle.listing.specs.Listing.{decimal}
use Rattle.listing.proofs.Lengths.{four_digits}
use Rattle.sheet.specs.Sheet.{Sheet, particle_w, triangle_w, edge_w, boundary_w, blade_w}
use Rattle.sheet.proofs.CoordLaws.{coord_low, coord_high}
use Rattle.differences.specs.Differences.{Difference, counts, place, blades, list_of, count_differs, rows_differ, parts, differences, coord_text, signed, texts_of, reading_of, apart, count_word, blade_word, word_of, plural_of, line_of, difference_text}
use Rattle.differences.specs.Work.{read_at, same_reading_of, place_differs}
use Rattle.differing.specs.Work.{Within}
use Rattle.differences.specs.declared.Part.{Part}
use Rattle.differences.specs.declared.Part.TheVariants.{Particles, Triangles, Edges, Boundary}
use Rattle.differences.proofs.Places.{rows_step, rest_long}
use Rattle.sheet.proofs.Back.{row3}

-- ---- numbers

-- a sign and four digits
coord_long : (n : ℕ) → n < 2048 → length (coord_text n) ≤ 5
coord_long n h =
    elim (dec_le 1024 n) [
      | yes l ↦ omega (arith, ap (λ (z : ℤ). length (signed z)) (coord_high n l h), four_digits (suc (2047 - n)) (omega arith))
      | no l ↦ omega (arith, ap (λ (z : ℤ). length (signed z)) (coord_low n (omega arith)), four_digits n (omega arith))
    ]

-- ---- readings

-- the widths of a list's fields
abbrev pub widths_of : Part → List ℕ
widths_of Particles = particle_w
widths_of Triangles = triangle_w
widths_of Edges = edge_w
widths_of Boundary = boundary_w

-- a reading whose fields hold their numbers
abbrev FitReading : Part → Option (List ℕ) → Type 0
FitReading p none = Unit {0}
FitReading p (some r) = Fit (widths_of p) r

names_long : (x y z : ℕ) → x < 10000 → y < 10000 → z < 10000 → length (each apart (map decimal (x ∷ y ∷ z ∷ []))) ≤ 15
unfolding each
names_long x y z f g h =
    omega (arith, length-append (decimal x) (32 ∷ (decimal y ++ (32 ∷ (decimal z ++ [])))), length-append (decimal y) (32 ∷ (decimal z ++ [])), length-append (decimal z) [], four_digits x f, four_digits y g, four_digits z h)

two_long : (x y : ℕ) → x < 10000 → y < 10000 → length (each apart (map decimal (x ∷ y ∷ []))) ≤ 10
unfolding each
two_long x y f g = omega (arith, length-append (decimal x) (32 ∷ (decimal y ++ [])), length-append (decimal y) [], four_digits x f, four_digits y g)

particle_long : (x y z : ℕ) → x < 2048 → y < 2048 → z < 10000 → length (each apart (coord_text x ∷ coord_text y ∷ decimal z ∷ [])) ≤ 17
unfolding each
particle_long x y z f g h =
    omega (arith, length-append (coord_text x) (32 ∷ (coord_text y ++ (32 ∷ (decimal z ++ [])))), length-append (coord_text y) (32 ∷ (decimal z ++ [])), length-append (decimal z) [], coord_long x f, coord_long y g, four_digits z h)

sides_long : (r : List ℕ) → Fit boundary_w r → length (each apart (map decimal r)) ≤ 17
unfolding Fit
sides_long [] f = absurd f
sides_long (x ∷ []) f = absurd f.1
sides_long (x ∷ y ∷ []) f = omega (arith, two_long x y (omega (arith, f.0)) (omega (arith, f.1.0)))
sides_long (x ∷ y ∷ z ∷ r) f = absurd f.1.1

fields_long : (p : Part) (r : List ℕ) → Fit (widths_of p) r → length (each apart (texts_of p r)) ≤ 17
fields_long Particles r f = let w = row3 11 11 1 r f in particle_long (get_or r 0 0) (get_or r 1 0) (get_or r 2 0) w.1 w.2 (omega (arith, w.3))
fields_long Triangles r f =
    let w = row3 10 10 10 r f in
    let m = names_long (get_or r 0 0) (get_or r 1 0) (get_or r 2 0) (omega (arith, w.1)) (omega (arith, w.2)) (omega (arith, w.3)) in
    omega (arith, subst (λ (s : List ℕ). length (each apart (map decimal s)) ≤ 15) w.0 m)
fields_long Edges r f =
    let w = row3 10 10 1 r f in
    let m = names_long (get_or r 0 0) (get_or r 1 0) (get_or r 2 0) (omega (arith, w.1)) (omega (arith, w.2)) (omega (arith, w.3)) in
    omega (arith, subst (λ (s : List ℕ). length (each apart (map decimal s)) ≤ 15) w.0 m)
fields_long Boundary r f = sides_long r f

reading_long : (p : Part) (o : Option (List ℕ)) → FitReading p o → length (each apart (reading_of p o)) ≤ 17
unfolding each
reading_long p none f = omega arith
reading_long p (some r) f = fields_long p r f

-- ---- lines

word_long : (p : Part) → length (word_of p) ≤ 8
word_long Particles = omega arith
word_long Triangles = omega arith
word_long Edges = omega arith
word_long Boundary = omega arith

-- a line of these parts
abbrev joined : List ℕ → List ℕ → List ℕ → List ℕ → List ℕ
joined a b x y = a ++ b ++ (x ++ (32 ∷ 47 ∷ []) ++ y ++ (10 ∷ []))

joined_long : (a b x y : List ℕ) → length (joined a b x y) ≡ length a + length b + length x + length y + 3
joined_long a b x y =
    omega (arith, length-append (a ++ b) (x ++ (32 ∷ 47 ∷ []) ++ y ++ (10 ∷ [])), length-append a b, length-append (x ++ (32 ∷ 47 ∷ []) ++ y) (10 ∷ []), length-append (x ++ (32 ∷ 47 ∷ [])) y, length-append x (32 ∷ 47 ∷ []))

place_long : (p : Part) (k : ℕ) (r s : Option (List ℕ)) → k < 10000 → FitReading p r → FitReading p s → length (line_of (place p k r s)) ≤ 60
unfolding line_of
place_long p k r s h f g =
    omega (arith, joined_long (word_of p) (apart (decimal k)) (each apart (reading_of p r)) (each apart (reading_of p s)), word_long p, four_digits k h, reading_long p r f, reading_long p s g)

one_long : (n : ℕ) → n < 10000 → length (each apart (decimal n ∷ [])) ≤ 5
unfolding each
one_long n h = omega (arith, length-append (decimal n) [], four_digits n h)

plural_long : (p : Part) → length (plural_of p) ≤ 9
plural_long Particles = omega arith
plural_long Triangles = omega arith
plural_long Edges = omega arith
plural_long Boundary = omega arith

count_long : (p : Part) (m n : ℕ) → m < 10000 → n < 10000 → length (line_of (counts p m n)) ≤ 60
unfolding line_of
count_long p m n f g =
    omega (arith, joined_long count_word (apart (plural_of p)) (each apart (decimal m ∷ [])) (each apart (decimal n ∷ [])), plural_long p, one_long m f, one_long n g)

four_long : (r : List ℕ) → Fit blade_w r → length (each apart (map coord_text r)) ≤ 24
unfolding Fit each
four_long [] f = absurd f
four_long (x ∷ []) f = absurd f.1
four_long (x ∷ y ∷ []) f = absurd f.1.1
four_long (x ∷ y ∷ z ∷ []) f = absurd f.1.1.1
four_long (x ∷ y ∷ z ∷ w ∷ []) f =
    omega (
      arith,
      length-append (coord_text x) (32 ∷ (coord_text y ++ (32 ∷ (coord_text z ++ (32 ∷ (coord_text w ++ [])))))),
      length-append (coord_text y) (32 ∷ (coord_text z ++ (32 ∷ (coord_text w ++ [])))),
      length-append (coord_text z) (32 ∷ (coord_text w ++ [])),
      length-append (coord_text w) [],
      coord_long x f.0,
      coord_long y f.1.0,
      coord_long z f.1.1.0,
      coord_long w f.1.1.1.0,
    )
four_long (x ∷ y ∷ z ∷ w ∷ v ∷ r) f = absurd f.1.1.1.1

blade_long : (a b : List ℕ) → Fit blade_w a → Fit blade_w b → length (line_of (blades a b)) ≤ 60
unfolding line_of
blade_long a b f g = omega (arith, joined_long blade_word [] (each apart (map coord_text a)) (each apart (map coord_text b)), four_long a f, four_long b g)

-- ---- how many lines, and how many bytes

-- at most n differences, of at most 60 bytes each
record Few (n : ℕ) (ds : List Difference) : Type 0 where
  pub lines : length ds ≤ n
  pub bytes : length (each line_of ds) ≤ n * 60

few_none : (n : ℕ) → Few n []
unfolding each
few_none n = record { lines = omega arith; bytes = omega arith }

few_pick : (t : Bool) (d : Difference) → length (line_of d) ≤ 60 → Few 1 (pick t [] (d ∷ []))
unfolding each
few_pick true d h = few_none 1
few_pick false d h = record { lines = omega arith; bytes = omega (arith, length-append (line_of d) []) }

few_both : (m n : ℕ) (x y : List Difference) → Few m x → Few n y → Few (m + n) (x ++ y)
few_both m n x y f g =
    record { lines = omega (arith, length-append x y, f.lines, g.lines); bytes = omega (arith, ap length (each_append line_of x y), length-append (each line_of x) (each line_of y), f.bytes, g.bytes) }

rest_fit : (ws : List ℕ) (a : List (List ℕ)) → FitAll ws a → FitAll ws (rest a)
unfolding FitAll
rest_fit ws [] f = tt
rest_fit ws (r ∷ a) f = f.1

first_fit : (p : Part) (a : List (List ℕ)) → FitAll (widths_of p) a → FitReading p (read_at a 0)
unfolding FitAll
first_fit p [] f = tt
first_fit p (r ∷ a) f = f.0

none_rows : (p : Part) (k : ℕ) (a b : List (List ℕ)) → length a ≤ 0 → length b ≤ 0 → Few 0 (rows_differ p k a b)
unfolding rows_differ
none_rows p k [] [] h g = few_none 0
none_rows p k (r ∷ a) b h g = absurd (omega arith)
none_rows p k [] (s ∷ b) h g = absurd (omega arith)

few_rows : (n : ℕ) (p : Part) (k : ℕ) (a b : List (List ℕ)) → k + n ≤ 10000 → length a ≤ n → length b ≤ n → FitAll (widths_of p) a → FitAll (widths_of p) b → Few n (rows_differ p k a b)
unfolding place_differs
few_rows zero p k a b q h g u v = none_rows p k a b h g
few_rows (suc n) p k a b q h g u v =
    let r = read_at a 0 in
    let s = read_at b 0 in
    let one : Few 1 (place_differs p k r s) = few_pick (same_reading_of r s) (place p k r s) (place_long p k r s (omega arith) (first_fit p a u) (first_fit p b v)) in
    let more = few_rows n p (suc k) (rest a) (rest b) (omega arith) (rest_long n a h) (rest_long n b g) (rest_fit (widths_of p) a u) (rest_fit (widths_of p) b v) in
    let e : 1 + n ≡ suc n = omega arith in
    subst (λ (m : ℕ). Few m (rows_differ p k a b)) e (subst (Few (1 + n)) (sym (rows_step p k a b)) (few_both 1 n (place_differs p k r s) (rows_differ p (suc k) (rest a) (rest b)) one more))

-- ---- two sheets within the limits

module _ (a b : Sheet) (A : Within a) (B : Within b) where
  few_count : (p : Part) → length (list_of p a) < 10000 → length (list_of p b) < 10000 → Few 1 (count_differs p a b)
  unfolding count_differs
  few_count p f g = few_pick (eqb (length (list_of p a)) (length (list_of p b))) (counts p (length (list_of p a)) (length (list_of p b))) (count_long p (length (list_of p a)) (length (list_of p b)) f g)

  four_few : (m n k j : ℕ) (F : Part → List Difference) → Few m (F Particles) → Few n (F Triangles) → Few k (F Edges) → Few j (F Boundary) → Few (m + (n + (k + (j + 0)))) (each F parts)
  unfolding each
  four_few m n k j F x y z w = few_both m (n + (k + (j + 0))) (F Particles) (F Triangles ++ (F Edges ++ (F Boundary ++ []))) x (few_both n (k + (j + 0)) (F Triangles) (F Edges ++ (F Boundary ++ [])) y (few_both k (j + 0) (F Edges) (F Boundary ++ []) z (few_both j 0 (F Boundary) [] w (few_none 0))))

  few_all : Few 773 (differences a b)
  unfolding differences
  few_all =
      let c = four_few 1 1 1 1 (λ p. count_differs p a b)
      (few_count Particles (omega (arith, A.particles)) (omega (arith, B.particles))) (few_count Triangles (omega (arith, A.triangles)) (omega (arith, B.triangles)))
      (few_count Edges (omega (arith, A.edges)) (omega (arith, B.edges))) (few_count Boundary (omega (arith, A.boundary)) (omega (arith, B.boundary))) in
      let r = four_few 128 128 256 256 (λ p. rows_differ p 0 (list_of p a) (list_of p b))
      (few_rows 128 Particles 0 a.particles b.particles (omega arith) A.particles B.particles A.fits.particles B.fits.particles)
      (few_rows 128 Triangles 0 a.triangles b.triangles (omega arith) A.triangles B.triangles A.fits.triangles B.fits.triangles)
      (few_rows 256 Edges 0 a.edges b.edges (omega arith) A.edges B.edges A.fits.edges B.fits.edges)
      (few_rows 256 Boundary 0 a.boundary b.boundary (omega arith) A.boundary B.boundary A.fits.boundary B.fits.boundary) in
      let d = few_pick (same_row_of a.blade b.blade) (blades a.blade b.blade) (blade_long a.blade b.blade A.fits.blade B.fits.blade) in
      few_both 772 1 _ _ (few_both 4 768 _ _ c r) d

  -- so many lines at most
  pub few_lines : length (differences a b) ≤ 773
  few_lines = few_all.lines

  -- the text of their differences is shorter than 65,536 bytes
  pub text_few : length (difference_text (differences a b)) ≤ 65536
  unfolding difference_text
  text_few =
      let f = few_all in
      let ds = differences a b in
      omega (arith, f.lines, f.bytes, length-append (each line_of ds ++ decimal (length ds)) (10 ∷ []), length-append (each line_of ds) (decimal (length ds)), four_digits (length ds) (omega (arith, f.lines)))
