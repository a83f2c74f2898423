-- Laws of a whole sheet mended: where its lists stand, what the columns of fates leave of them, and the mended sheet put together. Assumes nothing.
use Prim.Native.Nat.{ℕ, zero, suc, ◌+◌, ◌*◌, ◌^◌, ◌<◌, ◌≤◌}
use mathlib.Core.Path.{◌≡◌, refl, sym, ap, ap₂, ◌∙◌, subst}
use mathlib.Core.Bool.{Bool, true, false}
use mathlib.Core.List.{List, [], ◌∷◌, ◌++◌}
use native.Mathlib.Omega.{arith}
use lib.ListN.{length, take, drop, replicate, length-map}
use lib.Seq.{take_at}
use Rattle.lists.specs.Lists.{pick}
use Rattle.bits.specs.Bits.{bits_of}
use Rattle.bits.specs.Rows.{total, unpack, read_rows, FitAll, col, column_at}
use Rattle.bits.proofs.RowLaws.{length_read, col_at, take_zeros}
use Rattle.sheet.specs.Sheet.{Sheet, sheet_with, counts_at, counts_of, particle_w, triangle_w, edge_w, boundary_w, blade_w, at_triangles, at_edges, at_boundary, at_blade, too_many_of}
use Rattle.sheet.specs.Work.{Small}
use Rattle.sheet.specs.declared.Counts.{Counts}
use Rattle.sheet.proofs.There.{limits}
use Rattle.edition.specs.Edition.{second, bits_in_of, bytes_in, typed_of}
use Rattle.edition.specs.Work.{start_of}
use Rattle.edition.proofs.Starts.{starts_at, start_most, header_bits}
use Rattle.edition.proofs.Fields.{least_bytes}
use Rattle.mending.specs.Sheets.{mended_sheet, said_of}
use Rattle.mending.specs.Work.{kept_by_of, one_of, zeros_of, codes_of, boundary_from, said_by, double_codes, Mendable}
use Rattle.mending.proofs.Codes.{codes_kept, boundary_kept, marks_boundary, said_is}
use Rattle.mending.proofs.Marks.{zeros_kept}
use Rattle.mending.proofs.Sheets.{mended_few}
use Rattle.mending.proofs.Bytes.{Plain, held_six, held_fit, held_few, held_plain, mended_plain, typed_is}
use Rattle.mender.specs.Work.{codes_at, Marked, KeptIn}
use Rattle.mender.proofs.Puts.{marks_three, marks_edges, marks_pairs}

-- ---- how large a sheet is

pub record Sizes (s : List ℕ) (c : Counts) (start : ℕ) : Type 0 where
  pub particles : c.particles ≤ 1024
  pub triangles : c.triangles ≤ 1024
  pub edges : c.edges ≤ 2048
  pub boundary : c.boundary ≤ 2048
  pub early : start ≤ 46
  pub reach : start + c.particles * 23 + c.triangles * 30 + c.edges * 21 + c.boundary * 20 + 44 ≤ 8 * length s

reach_by : (t : Bool) (n : ℕ) (c : Counts) → n ≡ bytes_in t c → pick t 45 46 + c.particles * 23 + c.triangles * 30 + c.edges * 21 + c.boundary * 20 + 44 ≤ 8 * n
reach_by true n c e = omega arith
reach_by false n c e = omega arith

pub sizes : (s : List ℕ) (c : Counts) (start : ℕ) → Mendable s → c ≡ counts_at (bits_in_of (bits_of s)) → start ≡ start_of (bits_of s) → Sizes s c start
sizes s c start a e f =
    let l = limits (counts_at (bits_in_of (bits_of s))) a.few in
    let r = reach_by (second (bits_of s)) (length s) (counts_at (bits_in_of (bits_of s))) a.long in
    let m = start_most (bits_of s) in
    let g : Sizes s (counts_at (bits_in_of (bits_of s))) (start_of (bits_of s)) = record { particles = l.0; triangles = l.1; edges = l.2; boundary = l.3; early = m; reach = r } in
    subst (λ (x : ℕ). Sizes s c x) (sym f) (subst (λ (x : Counts). Sizes s x (start_of (bits_of s))) (sym e) g)

-- ---- where its lists stand

module _ (s : List ℕ) (a : Mendable s) where
  abbrev l : List ℕ
  l = bits_of s

  abbrev C : Counts
  C = counts_at (bits_in_of (bits_of s))

  room : 45 ≤ length (bits_of s)
  room = header_bits s (held_six s a)

  pub particles_at : (at : ℕ) → at ≡ start_of l → read_rows particle_w C.particles (drop at l) ≡ (typed_of l).particles
  unfolding typed_of sheet_with
  particles_at at e = ap (λ (x : List ℕ). read_rows particle_w C.particles x) (starts_at l room 46 at 0 (omega arith) (omega arith))

  pub triangles_at_lem : (at : ℕ) → at ≡ start_of l + C.particles * 23 → read_rows triangle_w C.triangles (drop at l) ≡ (typed_of l).triangles
  unfolding typed_of sheet_with
  triangles_at_lem at e = ap (λ (x : List ℕ). read_rows triangle_w C.triangles x) (starts_at l room (at_triangles C) at (C.particles * 23) (omega arith) (omega arith))

  pub edges_at : (at : ℕ) → at ≡ start_of l + C.particles * 23 + C.triangles * 30 → read_rows edge_w C.edges (drop at l) ≡ (typed_of l).edges
  unfolding typed_of sheet_with
  edges_at at e = ap (λ (x : List ℕ). read_rows edge_w C.edges x) (starts_at l room (at_edges C) at (C.particles * 23 + C.triangles * 30) (omega arith) (omega arith))

  pub boundary_at : (at : ℕ) → at ≡ start_of l + C.particles * 23 + C.triangles * 30 + C.edges * 21 → read_rows boundary_w C.boundary (drop at l) ≡ (typed_of l).boundary
  unfolding typed_of sheet_with
  boundary_at at e = ap (λ (x : List ℕ). read_rows boundary_w C.boundary x) (starts_at l room (at_boundary C) at (C.particles * 23 + C.triangles * 30 + C.edges * 21) (omega arith) (omega arith))

  pub blade_at : (at : ℕ) → at ≡ start_of l + C.particles * 23 + C.triangles * 30 + C.edges * 21 + C.boundary * 20 → unpack blade_w (drop at l) ≡ (typed_of l).blade
  unfolding typed_of sheet_with
  blade_at at e = ap (unpack blade_w) (starts_at l room (at_blade C) at (C.particles * 23 + C.triangles * 30 + C.edges * 21 + C.boundary * 20) (omega arith) (omega arith))

  pub many : (length (typed_of l).particles ≡ C.particles) × (length (typed_of l).triangles ≡ C.triangles) × (length (typed_of l).edges ≡ C.edges) × (length (typed_of l).boundary ≡ C.boundary)
  unfolding typed_of sheet_with
  many = (length_read particle_w C.particles (drop 46 (bits_in_of l)), length_read triangle_w C.triangles (drop (at_triangles C) (bits_in_of l)), length_read edge_w C.edges (drop (at_edges C) (bits_in_of l)), length_read boundary_w C.boundary (drop (at_boundary C) (bits_in_of l)))

  -- the fates that the loops leave are those of the sheet's lists
  pub marked : (c : Counts) (start at_t at_e at_b lt le lb : ℕ) (t e b : List ℕ) → c ≡ C → start ≡ start_of l → lt ≡ C.triangles → le ≡ C.edges → lb ≡ C.boundary
      → at_t ≡ start + c.particles * 23 → at_e ≡ at_t + c.triangles * 30 → at_b ≡ at_e + c.edges * 21
      → t ≡ codes_at true c.particles l at_t 30 lt → e ≡ codes_at false c.particles l at_e 21 le → b ≡ boundary_from c.particles [] (read_rows boundary_w lb (drop at_b l)) → Marked s t e b
  marked c start at_t at_e at_b lt le lb t e b ec es et ee eb qt qe qb ht he hb =
      let ep : c.particles ≡ C.particles = ap (λ (x : Counts). x.particles) ec in
      let e_t : c.triangles ≡ C.triangles = ap (λ (x : Counts). x.triangles) ec in
      let e_e : c.edges ≡ C.edges = ap (λ (x : Counts). x.edges) ec in
      let np : c.particles ≡ length (typed_of l).particles = ep ∙ sym many.0 in
      record {
        triangles = ht ∙ (marks_three c.particles lt at_t l ∙ (ap (λ (n : ℕ). codes_of c.particles 3 (read_rows triangle_w n (drop at_t l))) et ∙ ap₂ (λ (n : ℕ) (r : List (List ℕ)). codes_of n 3 r) np (triangles_at_lem at_t (omega arith))));
        edges = he ∙ (marks_edges c.particles le at_e l ∙ (ap (λ (n : ℕ). codes_of c.particles 2 (read_rows edge_w n (drop at_e l))) ee ∙ ap₂ (λ (n : ℕ) (r : List (List ℕ)). codes_of n 2 r) np (edges_at at_e (omega arith))));
        boundary = hb ∙ (ap (λ (n : ℕ). boundary_from c.particles [] (read_rows boundary_w n (drop at_b l))) eb ∙ ap₂ (λ (n : ℕ) (r : List (List ℕ)). boundary_from n [] r) np (boundary_at at_b (omega arith)));
      }

-- columns read, and their doubles: the fates of boundary entries
pub boundary_marked : (s a b m : List ℕ) (at p n : ℕ) → a ≡ column_at (bits_of s) at 20 10 n → b ≡ column_at (bits_of s) (at + 10) 20 10 n → m ≡ codes_at false p (bits_of s) at 20 n
    → double_codes a b m ≡ boundary_from p [] (read_rows boundary_w n (drop at (bits_of s)))
unfolding total
boundary_marked s a b m at p n ea eb em =
    let l = bits_of s in
    let R = read_rows boundary_w n (drop at l) in
    let z : at + 0 ≡ at = omega arith in
    let x : a ≡ col 0 R = ea ∙ (ap (λ (k : ℕ). column_at l k 20 10 n) (sym z) ∙ sym (col_at boundary_w n l at 0 (omega arith))) in
    let y : b ≡ col 1 R = eb ∙ sym (col_at boundary_w n l at 1 (omega arith)) in
    (λ i. double_codes (x i) (y i) ((em ∙ marks_pairs p n at l) i)) ∙ marks_boundary p R

-- ---- what the fates leave

pub zeros_all : (n : ℕ) → zeros_of (replicate n 0) ≡ n
unfolding zeros_of one_of
zeros_all zero = refl
zeros_all (suc n) = let e = zeros_all n in omega arith

pub kept_all : (rows : List (List ℕ)) (n : ℕ) → length rows ≡ n → kept_by_of (replicate n 0) rows ≡ rows
unfolding kept_by_of
kept_all [] zero e = refl
kept_all [] (suc n) e = refl
kept_all (r ∷ rs) zero e = absurd (omega arith)
kept_all (r ∷ rs) (suc n) e = ap (λ (x : List (List ℕ)). r ∷ x) (kept_all rs n (omega arith))

boundary_long : (n : ℕ) (past rows : List (List ℕ)) → length (boundary_from n past rows) ≡ length rows
unfolding boundary_from
boundary_long n past [] = refl
boundary_long n past (r ∷ rs) = ap suc (boundary_long n (past ++ (r ∷ [])) rs)

module _ (s t e b : List ℕ) (a : Mendable s) (k : Marked s t e b) where
  abbrev B : Sheet
  B = typed_of (bits_of s)

  abbrev M : Sheet
  M = mended_sheet (typed_of (bits_of s))

  fit_boundary : FitAll boundary_w (typed_of (bits_of s)).boundary
  fit_boundary = subst (λ (x : Sheet). FitAll boundary_w x.boundary) (sym (typed_is s)) (held_fit s a).boundary

  pub kept_triangles : kept_by_of t B.triangles ≡ M.triangles
  unfolding mended_sheet
  kept_triangles = ap (λ (x : List ℕ). kept_by_of x B.triangles) k.triangles ∙ codes_kept (length B.particles) 3 B.triangles

  pub kept_edges : kept_by_of e B.edges ≡ M.edges
  unfolding mended_sheet
  kept_edges = ap (λ (x : List ℕ). kept_by_of x B.edges) k.edges ∙ codes_kept (length B.particles) 2 B.edges

  pub kept_boundary : kept_by_of b B.boundary ≡ M.boundary
  unfolding mended_sheet
  kept_boundary = ap (λ (x : List ℕ). kept_by_of x B.boundary) k.boundary ∙ boundary_kept (length B.particles) B.boundary fit_boundary

  pub long_t : length t ≡ length B.triangles
  long_t = ap length k.triangles ∙ length-map B.triangles _

  pub long_e : length e ≡ length B.edges
  long_e = ap length k.edges ∙ length-map B.edges _

  pub long_b : length b ≡ length B.boundary
  long_b = ap length k.boundary ∙ boundary_long (length B.particles) [] B.boundary

  pub zeros_t : zeros_of t ≡ length M.triangles
  zeros_t = sym (zeros_kept t B.triangles (sym long_t)) ∙ ap length kept_triangles

  pub zeros_e : zeros_of e ≡ length M.edges
  zeros_e = sym (zeros_kept e B.edges (sym long_e)) ∙ ap length kept_edges

  pub zeros_b : zeros_of b ≡ length M.boundary
  zeros_b = sym (zeros_kept b B.boundary (sym long_b)) ∙ ap length kept_boundary

  pub same_particles : M.particles ≡ B.particles
  unfolding mended_sheet
  same_particles = refl

  pub same_blade : M.blade ≡ B.blade
  unfolding mended_sheet
  same_blade = refl

  pub kept_counts : (c : Counts) (x y z : ℕ) → c ≡ counts_at (bits_in_of (bits_of s)) → x ≡ zeros_of t → y ≡ zeros_of e → z ≡ zeros_of b
      → record { particles = c.particles; triangles = x; edges = y; boundary = z } ≡ counts_of M
  kept_counts c x y z ec ex ey ez =
      let p : c.particles ≡ length M.particles = ap (λ (d : Counts). d.particles) ec ∙ (sym (many s a).0 ∙ ap length (sym same_particles)) in
      let q : x ≡ length M.triangles = ex ∙ zeros_t in
      let r : y ≡ length M.edges = ey ∙ zeros_e in
      let w : z ≡ length M.boundary = ez ∙ zeros_b in
      λ i. record { particles = p i; triangles = q i; edges = r i; boundary = w i }

  -- the text is the sheet's
  pub marked_said : said_by t e b ≡ said_of B
  marked_said = (λ i. said_by (k.triangles i) (k.edges i) (k.boundary i)) ∙ subst (λ (x : Sheet). said_by (codes_of (length x.particles) 3 x.triangles) (codes_of (length x.particles) 2 x.edges) (boundary_from (length x.particles) [] x.boundary) ≡ said_of x) (sym (typed_is s)) (said_is (sheet_with (counts_at (bits_in_of (bits_of s))) (bits_in_of (bits_of s))) (held_fit s a))

  few : too_many_of (counts_of M) ≡ false
  few = subst (λ (x : Sheet). too_many_of (counts_of (mended_sheet x)) ≡ false) (sym (typed_is s)) (mended_few (sheet_with (counts_at (bits_in_of (bits_of s))) (bits_in_of (bits_of s))) (held_fit s a) (held_few s a))

  pub small_kept : Small (counts_of M)
  small_kept = let l = limits (counts_of M) few in record { particles = omega (arith, l.0); triangles = omega (arith, l.1); edges = omega (arith, l.2); boundary = omega (arith, l.3) }

  pub plain : Plain (second (bits_of s)) M
  plain = mended_plain (second (bits_of s)) B (subst (λ (x : Sheet). Plain (second (bits_of s)) x) (sym (typed_is s)) (held_plain s a))

  -- where the written lists end, in bytes that hold the mended sheet
  pub room_out : (n start : ℕ) → start ≡ start_of (bits_of s) → bytes_in (second (bits_of s)) (counts_of M) ≤ n
      → (start + length M.particles * 23 + length M.triangles * 30 + length M.edges * 21 + length M.boundary * 20 + 44 ≤ 8 * n) × (11 ≤ n)
  room_out n start es h =
      let r = reach_by (second (bits_of s)) (bytes_in (second (bits_of s)) (counts_of M)) (counts_of M) refl in
      let w = least_bytes (second (bits_of s)) (counts_of M) in
      (omega arith, omega arith)

  pub few_out : (length M.particles ≤ 1024) × (length M.triangles ≤ 1024) × (length M.edges ≤ 2048) × (length M.boundary ≤ 2048)
  few_out = limits (counts_of M) few

  pub many_out : (length M.particles ≡ (counts_at (bits_in_of (bits_of s))).particles)
  many_out = ap length same_particles ∙ (many s a).0

pub zeros_taken : (n m : ℕ) → n ≤ m → zeros_of (take n (replicate {A = ℕ} m 0)) ≡ n
zeros_taken n m h = ap zeros_of (take_zeros n m h) ∙ zeros_all n

pub front : (x y z : List ℕ) (n : ℕ) → z ≡ x ++ y → length x ≡ n → take n z ≡ x
front x y z n e h = ap (take n) e ∙ take_at x y n h

-- numbers of everything that is read and written
pub record Plan (s t e b : List ℕ) (c : Counts) (start n mt me mb : ℕ) : Type 0 where
  pub size : Sizes s c start
  pub long_t : length t ≡ c.triangles
  pub long_e : length e ≡ c.edges
  pub long_b : length b ≡ c.boundary
  pub zeros_t : zeros_of t ≡ mt
  pub zeros_e : zeros_of e ≡ me
  pub zeros_b : zeros_of b ≡ mb
  pub few_t : mt ≤ 1024
  pub few_e : me ≤ 2048
  pub few_b : mb ≤ 2048
  pub out : start + c.particles * 23 + mt * 30 + me * 21 + mb * 20 + 44 ≤ 8 * n

pub plan : (s t e b : List ℕ) (a : Mendable s) (k : Marked s t e b) (c : Counts) (start n : ℕ) → c ≡ counts_at (bits_in_of (bits_of s)) → start ≡ start_of (bits_of s) → bytes_in (second (bits_of s)) (counts_of (mended_sheet (typed_of (bits_of s)))) ≤ n
    → Plan s t e b c start n (length (mended_sheet (typed_of (bits_of s))).triangles) (length (mended_sheet (typed_of (bits_of s))).edges) (length (mended_sheet (typed_of (bits_of s))).boundary)
plan s t e b a k c start n ec es h =
    let r = (room_out s t e b a k n start es h).0 in
    let f = few_out s t e b a k in
    let p : length (mended_sheet (typed_of (bits_of s))).particles ≡ c.particles = many_out s t e b a k ∙ ap (λ (x : Counts). x.particles) (sym ec) in
    record {
      size = sizes s c start a ec es;
      long_t = long_t s t e b a k ∙ ((many s a).1 ∙ ap (λ (x : Counts). x.triangles) (sym ec));
      long_e = long_e s t e b a k ∙ ((many s a).2 ∙ ap (λ (x : Counts). x.edges) (sym ec));
      long_b = long_b s t e b a k ∙ ((many s a).3 ∙ ap (λ (x : Counts). x.boundary) (sym ec));
      zeros_t = zeros_t s t e b a k;
      zeros_e = zeros_e s t e b a k;
      zeros_b = zeros_b s t e b a k;
      few_t = f.1;
      few_e = f.2;
      few_b = f.3;
      out = omega arith;
    }

-- what the loop over kept rows asks, by its numbers
pub kept_in : (s mask out : List ℕ) (at w0 w1 w2 to n m w : ℕ) → length mask ≡ n → zeros_of mask ≡ m → w0 + w1 + w2 ≡ w → at + n * w ≤ 8 * length s → at + n * w < 2 ^ 32 → to + m * w ≤ 8 * length out → to + m * w < 2 ^ 32 → (w0 ≤ 12) × (w1 ≤ 12) × (w2 ≤ 12) → KeptIn s at w0 w1 w2 mask out to
kept_in s mask out at w0 w1 w2 to n m w en em ew r1 r2 r3 r4 q =
    let x : length mask * (w0 + w1 + w2) ≡ n * w = ap₂ (λ (i j : ℕ). i * j) en ew in
    let y : zeros_of mask * (w0 + w1 + w2) ≡ m * w = ap₂ (λ (i j : ℕ). i * j) em ew in
    record {
      room = subst (λ (k : ℕ). at + k ≤ 8 * length s) (sym x) r1;
      small = subst (λ (k : ℕ). at + k < 2 ^ 32) (sym x) r2;
      narrow0 = q.0;
      narrow1 = q.1;
      narrow2 = q.2;
      lent = subst (λ (k : ℕ). to + k ≤ 8 * length out) (sym y) r3;
      short = subst (λ (k : ℕ). to + k < 2 ^ 32) (sym y) r4;
    }

pub room_by : (n m k : ℕ) → n ≡ m → n ≤ k → m ≤ k
room_by n m k e h = omega arith

-- the limits of bytes that are mended
pub few_held : (s : List ℕ) (c : Counts) → Mendable s → c ≡ counts_at (bits_in_of (bits_of s)) → (c.particles ≤ 1024) × (c.triangles ≤ 1024) × (c.edges ≤ 2048) × (c.boundary ≤ 2048)
few_held s c a e = limits c (ap too_many_of e ∙ a.few)
