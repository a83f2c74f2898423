-- L13 (docs/RULES.md, R13): writing a sheet, in the second edition only: what a writer is handed, its refusals, every byte that it was lent, and what a mesh and a blade are to it. Definitions only.
use Rattle.std.specs.Prelude.{ℕ, zero, suc, ◌*◌, ◌≡◌, true, cond, List, [], map, length, ltb, leb, ℤ, Float}
use Rattle.std.specs.Float.Ieee.{to_signed, ne}
use Rattle.lists.specs.Lists.{pick, padded}
use Rattle.float.specs.Numbers.{zero32}
use Rattle.model.specs.Mesh.{Particle, Edge, Mesh}
use Rattle.mesh.specs.Filled.{corner_of}
use Rattle.bits.specs.Bits.{bits_of}
use Rattle.sheet.specs.Sheet.{Sheet, Columns, Wholes, fields_of, sheet_from, counts_in, even_of, too_many_of, fit_of, names_ok}
use Rattle.edition.specs.Edition.{sheet2_bits, own_of, bytes_in}
use Rattle.std.specs.Borrow.{Bor}
use denote.Triple.Both.{Both}

-- what a writer is handed: a column for each field, coordinates as whole numbers, and no boundary
pub record Handed : Type 0 where
  pub x : List ℤ
  pub y : List ℤ
  pub pinned : List ℕ
  pub t0 : List ℕ
  pub t1 : List ℕ
  pub t2 : List ℕ
  pub e0 : List ℕ
  pub e1 : List ℕ
  pub structural : List ℕ
  pub blade : List ℤ

-- what a writer is handed, of columns as a contract names them: in a `requires`, and in an `ensures`
abbrev pub handed_in : Bor (List ℤ) → Bor (List ℤ) → Bor (List ℕ) → Bor (List ℕ) → Bor (List ℕ) → Bor (List ℕ) → Bor (List ℕ) → Bor (List ℕ) → Bor (List ℕ) → Bor (List ℤ) → Handed
handed_in x y pinned t0 t1 t2 e0 e1 structural blade = record { x = x.now; y = y.now; pinned = pinned.now; t0 = t0.now; t1 = t1.now; t2 = t2.now; e0 = e0.now; e1 = e1.now; structural = structural.now; blade = blade.now }

abbrev pub handed_before : Both (Bor (List ℤ)) (Bor (List ℤ)) → Both (Bor (List ℤ)) (Bor (List ℤ)) → Both (Bor (List ℕ)) (Bor (List ℕ)) → Both (Bor (List ℕ)) (Bor (List ℕ)) → Both (Bor (List ℕ)) (Bor (List ℕ)) → Both (Bor (List ℕ)) (Bor (List ℕ)) → Both (Bor (List ℕ)) (Bor (List ℕ)) → Both (Bor (List ℕ)) (Bor (List ℕ)) → Both (Bor (List ℕ)) (Bor (List ℕ)) → Both (Bor (List ℤ)) (Bor (List ℤ)) → Handed
handed_before x y pinned t0 t1 t2 e0 e1 structural blade =
    record { x = x.entry.now; y = y.entry.now; pinned = pinned.entry.now; t0 = t0.entry.now; t1 = t1.entry.now; t2 = t2.entry.now; e0 = e0.entry.now; e1 = e1.entry.now; structural = structural.entry.now; blade = blade.entry.now }

-- the same with an empty boundary
abbrev pub wholes_from : Handed → Wholes
wholes_from h = record {
  x = h.x;
  y = h.y;
  pinned = h.pinned;
  t0 = h.t0;
  t1 = h.t1;
  t2 = h.t2;
  e0 = h.e0;
  e1 = h.e1;
  structural = h.structural;
  b0 = [];
  b1 = [];
  blade = h.blade;
}

-- its fields
abbrev pub columns_from : Handed → Columns
columns_from h = fields_of (wholes_from h)

-- what a writer answers with m bytes lent: 1; 2; 3; then 1 for an outline over 2,048; then 9; else 0
unfoldable pub answer_of : Columns → ℕ → ℕ
answer_of k m =
    cond (even_of k)
    (cond (too_many_of (counts_in k)) 1
    (cond (fit_of k)
    (cond (names_ok (sheet_from k)) (cond (ltb 2048 (length (own_of (sheet_from k)))) 1 (cond (leb (bytes_in true (counts_in k)) m) 0 9)) 3)
    2))
    1

-- what it leaves: the sheet's bits in the second edition and 0 behind them, or 0 alone
unfoldable pub put_of : ℕ → Sheet → List ℕ
put_of zero s = sheet2_bits s
put_of (suc r) s = []

-- what a writer answers, and the bits of every byte it was lent
pub record WriteDone (h : Handed) (before after : List ℕ) (r : ℕ) : Type 0 where
  pub answer : r ≡ answer_of (columns_from h) (length before)
  pub bits : bits_of after ≡ padded (8 * length before) 0 (put_of r (sheet_from (columns_from h)))

-- ---- what a mesh and a blade are to a writer

-- the whole number that a coordinate is, as `x as i64` gives it
abbrev pub whole_of : Float → ℤ
whole_of x = to_signed 63 x

-- 1 if pinned: an inverse mass of 0
unfoldable pub pinned_of : Float → ℕ
pinned_of inv = pick (ne inv zero32) 0 1

-- what a writer is handed of a mesh and a blade
unfoldable pub handed_of : Mesh → List Float → Handed
handed_of m blade = record {
  x = map (λ (p : Particle). whole_of p.x) m.particles;
  y = map (λ (p : Particle). whole_of p.y) m.particles;
  pinned = map (λ (p : Particle). pinned_of p.inv) m.particles;
  t0 = map (corner_of 0) m.triangles;
  t1 = map (corner_of 1) m.triangles;
  t2 = map (corner_of 2) m.triangles;
  e0 = map (λ (e : Edge). e.a) m.edges;
  e1 = map (λ (e : Edge). e.b) m.edges;
  structural = map (λ (e : Edge). e.structural) m.edges;
  blade = map whole_of blade;
}
