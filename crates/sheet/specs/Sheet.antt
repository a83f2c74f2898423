-- Sheets (docs/RULES.md, R13): the layout, a sheet's meaning, and what each sheet and each writing is answered. Definitions only.
use Rattle.std.specs.Prelude.{ℕ, ◌+◌, ◌-◌, ◌*◌, ◌/◌, Bool, true, false, cond, not, ◌&&◌, ◌||◌, List, [], ◌∷◌, ◌++◌, map, length, drop, get_or, ltb, leb, eqb, ℤ, pos, negsuc, Result, Ok, Err}
use Rattle.std.proofs.Math.IntN.{sub_ℕ}
use Rattle.bits.specs.Bits.{bits_of, field_at}
use Rattle.bits.specs.Rows.{unpack, pack, read_rows, write_rows, Fit, FitAll, rows_of, col}
use Rattle.sheet.specs.declared.Counts.{Counts}
use Rattle.mesh.specs.declared.refusals.Refusal.{Refusal}
use Rattle.mesh.specs.declared.refusals.Refusal.TheVariants.{Size, Name, Sheet as NoSheet}
use Rattle.std.specs.Borrow.{Bor}
use denote.Triple.Both.{Both}

-- the widths: counts; particle x, y, pinned; triangle; edge and structural; boundary; blade x0, y0, x1, y1
abbrev pub header_w : List ℕ
header_w = 11 ∷ 11 ∷ 12 ∷ 12 ∷ []

abbrev pub particle_w : List ℕ
particle_w = 11 ∷ 11 ∷ 1 ∷ []

abbrev pub triangle_w : List ℕ
triangle_w = 10 ∷ 10 ∷ 10 ∷ []

abbrev pub edge_w : List ℕ
edge_w = 10 ∷ 10 ∷ 1 ∷ []

abbrev pub boundary_w : List ℕ
boundary_w = 10 ∷ 10 ∷ []

abbrev pub blade_w : List ℕ
blade_w = 11 ∷ 11 ∷ 11 ∷ 11 ∷ []

-- a sheet's meaning: its lists, each entry the row of its fields; coordinates as their 11 bits (`coord` is their value)
pub record Sheet : Type 0 where
  pub particles : List (List ℕ)
  pub triangles : List (List ℕ)
  pub edges : List (List ℕ)
  pub boundary : List (List ℕ)
  pub blade : List ℕ

-- the value of an 11-bit two's complement field
unfoldable pub coord : ℕ → ℤ
coord n = sub_ℕ n (n / 1024 * 2048)

-- the field of a whole number in 11-bit two's complement, or 2048, which no 11 bits hold
unfoldable pub the_field_of : ℤ → ℕ
the_field_of (pos n) = cond (ltb n 1024) n 2048
the_field_of (negsuc n) = cond (ltb n 1024) (2047 - n) 2048

-- the counts that bits begin with
abbrev pub counts_at : List ℕ → Counts
counts_at l = record { particles = field_at l 0 11; triangles = field_at l 11 11; edges = field_at l 22 12; boundary = field_at l 34 12 }

-- where each list begins, and the end
abbrev pub at_triangles : Counts → ℕ
at_triangles c = 46 + c.particles * 23

abbrev pub at_edges : Counts → ℕ
at_edges c = at_triangles c + c.triangles * 30

abbrev pub at_boundary : Counts → ℕ
at_boundary c = at_edges c + c.edges * 21

abbrev pub at_blade : Counts → ℕ
at_blade c = at_boundary c + c.boundary * 20

abbrev pub end_of : Counts → ℕ
end_of c = at_blade c + 44

-- the sheet that bits hold, whatever else stands behind it
unfoldable pub sheet_with : Counts → List ℕ → Sheet
sheet_with c l = record {
  particles = read_rows particle_w c.particles (drop 46 l);
  triangles = read_rows triangle_w c.triangles (drop (at_triangles c) l);
  edges = read_rows edge_w c.edges (drop (at_edges c) l);
  boundary = read_rows boundary_w c.boundary (drop (at_boundary c) l);
  blade = unpack blade_w (drop (at_blade c) l);
}

-- the counts of a sheet
abbrev pub counts_of : Sheet → Counts
counts_of s = record { particles = length s.particles; triangles = length s.triangles; edges = length s.edges; boundary = length s.boundary }

-- counts as a header's row
abbrev pub header_of : Counts → List ℕ
header_of c = c.particles ∷ c.triangles ∷ c.edges ∷ c.boundary ∷ []

-- a sheet's bits, without the spare ones
unfoldable pub sheet_bits : Sheet → List ℕ
sheet_bits s =
    pack header_w (header_of (counts_of s)) ++ write_rows particle_w s.particles ++ write_rows triangle_w s.triangles
    ++ write_rows edge_w s.edges ++ write_rows boundary_w s.boundary ++ pack blade_w s.blade

-- every field holds its number
pub record FitSheet (s : Sheet) : Type 0 where
  pub header : Fit header_w (header_of (counts_of s))
  pub particles : FitAll particle_w s.particles
  pub triangles : FitAll triangle_w s.triangles
  pub edges : FitAll edge_w s.edges
  pub boundary : FitAll boundary_w s.boundary
  pub blade : Fit blade_w s.blade

-- a count is above its limit
unfoldable pub above : Counts → Counts → Bool
above limits c = ltb limits.particles c.particles || (ltb limits.triangles c.triangles || (ltb limits.edges c.edges || ltb limits.boundary c.boundary))

-- the limits of docs/RULES.md, R2.9
abbrev pub most : Counts
most = record { particles = 1024; triangles = 1024; edges = 2048; boundary = 2048 }

-- the limits of the programs that print text, `cutlist` (R14.1) and `sheetdiff` (R23.4): at most 128 particles, 128 triangles, 256 edges and 256 boundary entries, typed or its own
abbrev pub limits : Counts
limits = record { particles = 128; triangles = 128; edges = 256; boundary = 256 }

-- a count is above its limit
abbrev pub too_many_of : Counts → Bool
too_many_of c = above most c

-- how many bytes a sheet has
abbrev pub bytes_of : Counts → ℕ
bytes_of c = (end_of c + 7) / 8

-- the number that its spare bits stand for
abbrev pub spare_of : Counts → List ℕ → ℕ
spare_of c l = field_at l (end_of c) (8 * bytes_of c - end_of c)

-- two different particles of p
unfoldable pub pair_ok_of : ℕ → ℕ → ℕ → Bool
pair_ok_of p a b = ltb a p && (ltb b p && not (eqb a b))

-- a row of two names, or of three
unfoldable pub row_ok : Bool → ℕ → ℕ → ℕ → ℕ → Bool
row_ok three p a b c = pair_ok_of p a b && cond three (pair_ok_of p a c && pair_ok_of p b c) true

-- every row of a list
unfoldable pub all_ok : Bool → ℕ → List (List ℕ) → Bool
all_ok three p [] = true
all_ok three p (r ∷ rs) = row_ok three p (get_or r 0 0) (get_or r 1 0) (get_or r 2 0) && all_ok three p rs

-- every element names particles, and none twice
abbrev pub names_ok : Sheet → Bool
names_ok s = all_ok true (length s.particles) s.triangles && (all_ok false (length s.particles) s.edges && all_ok false (length s.particles) s.boundary)

-- what the bytes of a sheet with counts c are answered: counts 1; length and spare bits 9; names 3
unfoldable pub seen_with : Counts → Counts → List ℕ → Result Counts Refusal
seen_with limits c s =
    cond (too_many_of c || above limits c) (Err Size)
    (cond (eqb (length s) (bytes_of c))
    (cond (eqb (spare_of c (bits_of s)) 0)
    (cond (names_ok (sheet_with c (bits_of s))) (Ok c) (Err Name))
    (Err NoSheet))
    (Err NoSheet))

-- what the bytes of a sheet are answered, where the caller's limits hold besides those of every mesh: a short header 9; then as above
unfoldable pub seen_of : Counts → List ℕ → Result Counts Refusal
seen_of limits s = cond (ltb (length s) 6) (Err NoSheet) (seen_with limits (counts_at (bits_of s)) s)

-- every number of a column is below a bound
unfoldable pub all_below : ℕ → List ℕ → Bool
all_below m [] = true
all_below m (x ∷ xs) = ltb x m && all_below m xs

-- a column for each field
pub record Columns : Type 0 where
  pub x : List ℕ
  pub y : List ℕ
  pub pinned : List ℕ
  pub t0 : List ℕ
  pub t1 : List ℕ
  pub t2 : List ℕ
  pub e0 : List ℕ
  pub e1 : List ℕ
  pub structural : List ℕ
  pub b0 : List ℕ
  pub b1 : List ℕ
  pub blade : List ℕ

-- what a writer is handed: a column for each field, coordinates as whole numbers
pub record Wholes : Type 0 where
  pub x : List ℤ
  pub y : List ℤ
  pub pinned : List ℕ
  pub t0 : List ℕ
  pub t1 : List ℕ
  pub t2 : List ℕ
  pub e0 : List ℕ
  pub e1 : List ℕ
  pub structural : List ℕ
  pub b0 : List ℕ
  pub b1 : List ℕ
  pub blade : List ℤ

-- what a writer is handed, of columns as a contract names them: in a `requires`, and in an `ensures`
abbrev pub wholes_in : Bor (List ℤ) → Bor (List ℤ) → Bor (List ℕ) → Bor (List ℕ) → Bor (List ℕ) → Bor (List ℕ) → Bor (List ℕ) → Bor (List ℕ) → Bor (List ℕ) → Bor (List ℕ) → Bor (List ℕ) → Bor (List ℤ) → Wholes
wholes_in x y pinned t0 t1 t2 e0 e1 structural b0 b1 blade = record { x = x.now; y = y.now; pinned = pinned.now; t0 = t0.now; t1 = t1.now; t2 = t2.now; e0 = e0.now; e1 = e1.now; structural = structural.now; b0 = b0.now; b1 = b1.now; blade = blade.now }

abbrev pub wholes_before : Both (Bor (List ℤ)) (Bor (List ℤ)) → Both (Bor (List ℤ)) (Bor (List ℤ)) → Both (Bor (List ℕ)) (Bor (List ℕ)) → Both (Bor (List ℕ)) (Bor (List ℕ)) → Both (Bor (List ℕ)) (Bor (List ℕ)) → Both (Bor (List ℕ)) (Bor (List ℕ)) → Both (Bor (List ℕ)) (Bor (List ℕ)) → Both (Bor (List ℕ)) (Bor (List ℕ)) → Both (Bor (List ℕ)) (Bor (List ℕ)) → Both (Bor (List ℕ)) (Bor (List ℕ)) → Both (Bor (List ℕ)) (Bor (List ℕ)) → Both (Bor (List ℤ)) (Bor (List ℤ)) → Wholes
wholes_before x y pinned t0 t1 t2 e0 e1 structural b0 b1 blade =
    record { x = x.entry.now; y = y.entry.now; pinned = pinned.entry.now; t0 = t0.entry.now; t1 = t1.entry.now; t2 = t2.entry.now; e0 = e0.entry.now; e1 = e1.entry.now; structural = structural.entry.now; b0 = b0.entry.now; b1 = b1.entry.now; blade = blade.entry.now }

-- their fields; a coordinate that 11 bits cannot hold has 2048, which is refused with 2
abbrev pub fields_of : Wholes → Columns
fields_of w = record {
  x = map the_field_of w.x;
  y = map the_field_of w.y;
  pinned = w.pinned;
  t0 = w.t0;
  t1 = w.t1;
  t2 = w.t2;
  e0 = w.e0;
  e1 = w.e1;
  structural = w.structural;
  b0 = w.b0;
  b1 = w.b1;
  blade = map the_field_of w.blade;
}

-- the sheet that columns are
abbrev pub sheet_from : Columns → Sheet
sheet_from k = record {
  particles = rows_of (k.x ∷ k.y ∷ k.pinned ∷ []) 0 (length k.x);
  triangles = rows_of (k.t0 ∷ k.t1 ∷ k.t2 ∷ []) 0 (length k.t0);
  edges = rows_of (k.e0 ∷ k.e1 ∷ k.structural ∷ []) 0 (length k.e0);
  boundary = rows_of (k.b0 ∷ k.b1 ∷ []) 0 (length k.b0);
  blade = k.blade;
}

-- how many entries columns have
abbrev pub counts_in : Columns → Counts
counts_in k = record { particles = length k.x; triangles = length k.t0; edges = length k.e0; boundary = length k.b0 }

-- three columns have one length
unfoldable pub even3 : List ℕ → List ℕ → List ℕ → Bool
even3 a b c = eqb (length b) (length a) && eqb (length c) (length a)

-- columns of one list have one length, and the blade four numbers
abbrev pub even_of : Columns → Bool
even_of k = even3 k.x k.y k.pinned && (even3 k.t0 k.t1 k.t2
    && (even3 k.e0 k.e1 k.structural && (even3 k.b0 k.b1 k.b1 && eqb (length k.blade) 4)))

-- three columns stay below their bounds
unfoldable pub fit3 : ℕ → ℕ → ℕ → List ℕ → List ℕ → List ℕ → Bool
fit3 l m n a b c = all_below l a && (all_below m b && all_below n c)

-- the bits can hold each number
abbrev pub fit_of : Columns → Bool
fit_of k = fit3 2048 2048 2 k.x k.y k.pinned && (fit3 1024 1024 1024 k.t0 k.t1 k.t2
    && (fit3 1024 1024 2 k.e0 k.e1 k.structural && (fit3 1024 1024 1024 k.b0 k.b1 k.b1 && all_below 2048 k.blade)))

-- what a writer answers with m bytes lent: 1; 2; 3; 9; else 0
unfoldable pub answer_of : Columns → ℕ → ℕ
answer_of k m =
    cond (even_of k)
    (cond (too_many_of (counts_in k)) 1
    (cond (fit_of k) (cond (names_ok (sheet_from k)) (cond (leb (bytes_of (counts_in k)) m) 0 9) 3) 2))
    1

-- a sheet's columns
abbrev pub columns_of : Sheet → Columns
columns_of s = record {
  x = col 0 s.particles;
  y = col 1 s.particles;
  pinned = col 2 s.particles;
  t0 = col 0 s.triangles;
  t1 = col 1 s.triangles;
  t2 = col 2 s.triangles;
  e0 = col 0 s.edges;
  e1 = col 1 s.edges;
  structural = col 2 s.edges;
  b0 = col 0 s.boundary;
  b1 = col 1 s.boundary;
  blade = s.blade;
}
