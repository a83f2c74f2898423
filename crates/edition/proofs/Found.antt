-- The outline that a sheet is read with, and the answer to the sheet, from what the workers found. Assumes nothing.
use Prim.Native.Nat.{ℕ, zero, suc, ◌+◌, ◌*◌, ◌/◌, ◌≤◌}
use mathlib.Core.Path.{◌≡◌, refl, sym, ap, ap₂, ◌∙◌, subst}
use mathlib.Core.Bool.{Bool, true, false, not}
use mathlib.Core.List.{List}
use native.Mathlib.Omega.{arith}
use lib.ListN.{length, take, drop}
use lib.Seq.{length-take-le}
use Rattle.bits.specs.Bits.{bits_of}
use Rattle.bits.specs.Rows.{read_rows}
use Rattle.bits.proofs.RowLaws.{length_read}
use Rattle.outline.specs.Outline.{outline_of, outline_of_triangles, outline_of_straps, same_sides_of, settled}
use Rattle.outline_tables.specs.Rows.{sides_at, Listed, Even, SettledBy}
use Rattle.outline_tables.specs.declared.Settled.{Settled}
use Rattle.sheet.specs.Sheet.{sheet_with, end_of, triangle_w, edge_w, boundary_w, at_triangles, at_edges, at_boundary}
use Rattle.sheet.specs.declared.Counts.{Counts}
use Rattle.std.specs.Prelude.{Ok, Err}
use Rattle.sheet.proofs.There.{limits}
use Rattle.edition.specs.Edition.{second, bits_in_of, typed_of, sheet_of, own_of, outline_in, replaced_in, bytes_in, overlong, typed_seen, seen_in, seen_of, whole_with}
use Rattle.edition.specs.Work.{start_of, TypedIn, OutlineFound}
use Rattle.mesh.specs.declared.refusals.Refusal.{Refusal}
use Rattle.mesh.specs.declared.refusals.Refusal.TheVariants.{Size}
use Rattle.edition.proofs.Starts.{starts_at, header_bits}
use Rattle.edition.proofs.Sides.{own_few, sides_long}

-- the fronts of three columns are even
pub even_taken : (n : ℕ) (a b c : List ℕ) → n ≤ 2048 → n ≤ length a → n ≤ length b → n ≤ length c → Even (length (take n a)) (length (take n b)) (length (take n c))
even_taken n a b c f x y z =
    let p = length-take-le n a x in
    let q = length-take-le n b y in
    let r = length-take-le n c z in
    record { second = omega arith; third = omega arith; few = omega arith }

-- what is listed is listed under an equal name
pub listed_same : {x y : List (List ℕ)} (o : List ℕ) (r : ℕ) → x ≡ y → Listed x o r → Listed y o r
listed_same o r e l = subst (λ (z : List (List ℕ)). Listed z o r) e l

-- the start of each edition
pub start_second : (l : List ℕ) → second l ≡ true → 45 ≡ start_of l
start_second l e = rw e

pub start_first : (l : List ℕ) → second l ≡ false → 46 ≡ start_of l
start_first l e = rw e

-- a first-edition sheet reaches to its end
pub reach_first : (s : List ℕ) (c : Counts) → TypedIn s c → second (bits_of s) ≡ false → end_of c ≤ 8 * length s
reach_first s c t e = let n : length s ≡ bytes_in false c = subst (λ (u : Bool). length s ≡ bytes_in u c) e t.long in omega arith

module _ (s : List ℕ) (c : Counts) (t : TypedIn s c) where
  abbrev l : List ℕ
  l = bits_of s

  typed_is : typed_of l ≡ sheet_with c (bits_in_of l)
  unfolding typed_of
  typed_is = ap (λ (x : Counts). sheet_with x (bits_in_of l)) t.is

  -- it has no long outline of its own
  pub own_bound : length (own_of (typed_of l)) ≤ 3072
  unfolding sheet_with
  own_bound =
      let f = limits c t.few in
      let a = length_read triangle_w c.triangles (drop (at_triangles c) (bits_in_of l)) in
      let b = length_read edge_w c.edges (drop (at_edges c) (bits_in_of l)) in
      rw typed_is (own_few (read_rows triangle_w c.triangles (drop (at_triangles c) (bits_in_of l))) (read_rows edge_w c.edges (drop (at_edges c) (bits_in_of l))) (omega arith) (omega arith))

  no_triangles : (n : ℕ) (x : List ℕ) (es : List (List ℕ)) → n ≡ 0 → outline_of_straps es ≡ outline_of (read_rows triangle_w n x) es
  unfolding outline_of read_rows
  no_triangles zero x es h = refl
  no_triangles (suc n) x es h = absurd (omega arith)

  -- its own outline, by where its lists stand
  pub own_straps : (at : ℕ) → at ≡ start_of l + c.particles * 23 → c.triangles ≡ 0 → outline_of_straps (read_rows edge_w c.edges (drop at l)) ≡ own_of (typed_of l)
  unfolding sheet_with
  own_straps at e z =
      let d = starts_at l (header_bits s t.six) (at_edges c) at (c.particles * 23) (omega arith) (omega arith) in
      rw typed_is (ap (λ (x : List ℕ). outline_of_straps (read_rows edge_w c.edges x)) d
      ∙ no_triangles c.triangles (drop (at_triangles c) (bits_in_of l)) (read_rows edge_w c.edges (drop (at_edges c) (bits_in_of l))) z)

  some_triangles : (n : ℕ) (x : List ℕ) (es : List (List ℕ)) → (n ≡ 0 → ⊥) → outline_of_triangles (read_rows triangle_w n x) ≡ outline_of (read_rows triangle_w n x) es
  unfolding outline_of read_rows
  some_triangles zero x es h = absurd (h refl)
  some_triangles (suc n) x es h = refl

  pub own_triangles : (at : ℕ) → at ≡ start_of l + c.particles * 23 → (c.triangles ≡ 0 → ⊥) → outline_of_triangles (read_rows triangle_w c.triangles (drop at l)) ≡ own_of (typed_of l)
  unfolding sheet_with
  own_triangles at e h =
      let d = starts_at l (header_bits s t.six) (at_triangles c) at (c.particles * 23) (omega arith) (omega arith) in
      rw typed_is (ap (λ (x : List ℕ). outline_of_triangles (read_rows triangle_w c.triangles x)) d
      ∙ some_triangles c.triangles (drop (at_triangles c) (bits_in_of l)) (read_rows edge_w c.edges (drop (at_edges c) (bits_in_of l))) h)

  -- the outline that a second-edition sheet is read with is its own
  pub found_second : (o : List ℕ) (m : ℕ) → second l ≡ true → Listed (own_of (typed_of l)) o m → m ≤ length o / 2 → OutlineFound s o (record { count = m; replaced = false })
  unfolding outline_in replaced_in
  found_second o m e h r = record { sides = rw e (h.sides r); told = rw e }

  -- and that of a first-edition sheet is settled
  typed_sides_are : (at : ℕ) → second l ≡ false → at ≡ 46 + c.particles * 23 + c.triangles * 30 + c.edges * 21 → read_rows boundary_w c.boundary (drop at l) ≡ (typed_of l).boundary
  unfolding sheet_with
  typed_sides_are at e h =
      let w = start_first l e in
      let d = starts_at l (header_bits s t.six) (at_boundary c) at (c.particles * 23 + c.triangles * 30 + c.edges * 21) (omega arith) (omega arith) in
      rw typed_is (ap (read_rows boundary_w c.boundary) d)

  pub found_first : (at : ℕ) (x y : List (List ℕ)) (o : List ℕ) (r : Settled) → second l ≡ false → at ≡ 46 + c.particles * 23 + c.triangles * 30 + c.edges * 21
      → x ≡ read_rows boundary_w c.boundary (drop at l) → y ≡ own_of (typed_of l) → SettledBy x y o r → OutlineFound s o r
  unfolding outline_in replaced_in
  found_first at x y o r e h ex ey b =
      let fx : x ≡ (typed_of l).boundary = ex ∙ typed_sides_are at e h in
      record {
        sides = rw e (b.sides ∙ ap₂ settled fx ey);
        told = rw e (b.told ∙ ap₂ (λ (u v : List (List ℕ)). not (same_sides_of u v)) fx ey);
      }

  -- the answer
  module _ (lim : Counts) (w : typed_seen lim s ≡ Ok c) (o : List ℕ) (r : Settled) (f : OutlineFound s o r) where
    pub sides_are : sides_at r.count o ≡ (sheet_of l).sheet.boundary
    unfolding sheet_of
    sides_are = f.sides

    count_is : length (sheet_of l).sheet.boundary ≡ r.count
    count_is = ap length (sym sides_are) ∙ sides_long r.count o

    told_is : (sheet_of l).replaced ≡ r.replaced
    unfolding sheet_of
    told_is = sym f.told

    pub seen_long : overlong lim r.count ≡ true → Err Size ≡ seen_of lim s
    unfolding seen_in
    seen_long e = rw (w, count_is, e)

    pub seen_whole : overlong lim r.count ≡ false
        → whole_with (record { particles = c.particles; triangles = c.triangles; edges = c.edges; boundary = r.count }) r.replaced ≡ seen_of lim s
    unfolding seen_in
    seen_whole e = rw (w, count_is, e, told_is)

pub seen_refused : (lim : Counts) (s : List ℕ) (n : Refusal) → typed_seen lim s ≡ Err n → Err n ≡ seen_of lim s
unfolding seen_in
seen_refused lim s n e = rw e
