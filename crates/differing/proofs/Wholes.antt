-- Laws of two whole sheets: where their lists stand, what the workers ask for them, and that the pieces are all of their differences. Assumes nothing.
use Prim.Native.Nat.{ℕ, ◌+◌, ◌*◌, ◌<◌, ◌≤◌}
use native.Mathlib.Omega.{arith}
use mathlib.Core.Path.{◌≡◌, refl, sym, ap, ap₂, ◌∙◌, subst}
use mathlib.Core.Bool.{Bool}
use mathlib.Core.List.{List, [], ◌∷◌, ◌++◌, append_assoc, append-nil}
use lib.Dec.{eqb}
use lib.ListN.{length, drop, length-append}
use Rattle.lists.specs.Lists.{pick, each, same_row_of}
use Rattle.bits.specs.Bits.{bits_of}
use Rattle.bits.specs.Rows.{unpack, read_rows}
use Rattle.bits.proofs.RowLaws.{length_read}
use Rattle.outline_tables.specs.Rows.{sides_at}
use Rattle.sheet.specs.Sheet.{Sheet, limits, counts_at, counts_of, sheet_with, particle_w, triangle_w, edge_w, blade_w, at_triangles, at_edges, at_blade}
use Rattle.sheet.specs.Work.{RowsIn}
use Rattle.sheet.specs.declared.Counts.{Counts}
use Rattle.edition.specs.Edition.{bits_in_of, typed_of, sheet_of, seen_of, whole_with}
use Rattle.edition.specs.Work.{BladeAt, start_of}
use Rattle.std.specs.Prelude.{Result, Ok, Err}
use Rattle.mesh.specs.declared.refusals.Refusal.{Refusal}
use Rattle.mesh.specs.Refused.{number_of}
use Rattle.edition.specs.declared.Seen.{Seen}
use Rattle.edition.proofs.Starts.{starts_at, header_bits, reach, start_most, typed_within}
use Rattle.edition.proofs.Limited.{not_above}
use Rattle.listing.specs.Listing.{decimal, refused_bytes}
use Rattle.listing.specs.Answers.{Wrote, Told}
use Rattle.listing.specs.Work.{Appends, Finishes}
use Rattle.std.specs.Prelude.{Option}
use Rattle.listing.proofs.Appending.{appends_then, appends_as, wrote}
use Rattle.listing.proofs.Lengths.{refused_few}
use Rattle.differences.specs.Differences.{Difference, counts, blades, count_differs, rows_differ, differences, line_of, difference_text}
use Rattle.differing.specs.Differed.{read_sheet, differed_seen, differed}
use Rattle.differences.specs.Work.{Lists, four_of}
use Rattle.row_differences.specs.Work.{ListAsked, SidesAsked}
use Rattle.differing.specs.Work.{start, one_count, count_lines, list_lines, rest_lines, BladeRead, Within, FirstIn, seconded, second_text}
use Rattle.differences.specs.declared.Part.{Part}
use Rattle.differences.specs.declared.Part.TheVariants.{Particles, Triangles, Edges, Boundary}
use Rattle.differences.specs.declared.lines.Lines.{Lines}
use Rattle.differences.specs.declared.lines.Four.{Four}
use Rattle.differing.proofs.Fitting.{told, typed, read_fits, read_counts}
use Rattle.differing.proofs.Lengths.{text_few}
use Rattle.row_differences.proofs.Walking.{rows_few, pick_few}

-- ---- a whole sheet

pub first_in : (s : List ℕ) (c : Counts) (f : Bool) (o : List ℕ) → seen_of limits s ≡ whole_with c f → sides_at c.boundary o ≡ (sheet_of (bits_of s)).sheet.boundary → length o ≡ 6144 → FirstIn s c o
first_in s c f o e q b =
    let d = counts_at (bits_in_of (bits_of s)) in
    let n = not_above d (typed_within limits s d (told limits s c f e).typed) in
    let k : counts_of (read_sheet s) ≡ c = read_counts limits s c f e in
    let m : c ≡ record { particles = d.particles; triangles = d.triangles; edges = d.edges; boundary = length (read_sheet s).boundary } = (told limits s c f e).counts in
    let p : length (read_sheet s).particles ≡ d.particles = ap (λ (x : Counts). x.particles) (k ∙ m) in
    let t : length (read_sheet s).triangles ≡ d.triangles = ap (λ (x : Counts). x.triangles) (k ∙ m) in
    let g : length (read_sheet s).edges ≡ d.edges = ap (λ (x : Counts). x.edges) (k ∙ m) in
    record {
      typed = typed limits s c f e;
      counts = k;
      within = record { fits = read_fits limits s c f e; particles = omega (arith, n.particles); triangles = omega (arith, n.triangles); edges = omega (arith, n.edges); boundary = (told limits s c f e).within };
      sides = q;
      block = b;
    }

module _ (s : List ℕ) (c : Counts) (o : List ℕ) (F : FirstIn s c o) where
  abbrev l : List ℕ
  l = bits_of s

  abbrev d : Counts
  d = counts_at (bits_in_of (bits_of s))

  long_p : length (read_sheet s).particles ≡ d.particles
  unfolding sheet_of typed_of sheet_with
  long_p = length_read particle_w d.particles (drop 46 (bits_in_of l))

  long_t : length (read_sheet s).triangles ≡ d.triangles
  unfolding sheet_of typed_of sheet_with
  long_t = length_read triangle_w d.triangles (drop (at_triangles d) (bits_in_of l))

  long_e : length (read_sheet s).edges ≡ d.edges
  unfolding sheet_of typed_of sheet_with
  long_e = length_read edge_w d.edges (drop (at_edges d) (bits_in_of l))

  -- its counts
  pub counts_are : (c.particles ≡ d.particles) × (c.triangles ≡ d.triangles) × (c.edges ≡ d.edges) × (c.boundary ≡ length (read_sheet s).boundary)
  counts_are =
      let k = sym F.counts in
      (ap (λ (x : Counts). x.particles) k ∙ long_p, ap (λ (x : Counts). x.triangles) k ∙ long_t, ap (λ (x : Counts). x.edges) k ∙ long_e, ap (λ (x : Counts). x.boundary) k)

  -- they are small
  pub counts_small : (c.particles ≤ 128) × (c.triangles ≤ 128) × (c.edges ≤ 256) × (c.boundary ≤ 256) × (start_of (bits_of s) ≤ 46)
  counts_small =
      let k = counts_are in
      let w = F.within in
      (omega (arith, w.particles, long_p), omega (arith, w.triangles, long_t), omega (arith, w.edges, long_e), omega (arith, w.boundary), start_most l)

  -- where the lists stand
  pub particles_at : (at : ℕ) → at ≡ start_of (bits_of s) → read_rows particle_w c.particles (drop at (bits_of s)) ≡ (read_sheet s).particles
  unfolding sheet_of typed_of sheet_with
  particles_at at e =
      let x = starts_at l (header_bits s F.typed.six) 46 at 0 (omega arith) (omega arith) in
      ap₂ (λ (n : ℕ) (m : List ℕ). read_rows particle_w n m) counts_are.0 x

  pub triangles_at_lem : (at : ℕ) → at ≡ start_of (bits_of s) + c.particles * 23 → read_rows triangle_w c.triangles (drop at (bits_of s)) ≡ (read_sheet s).triangles
  unfolding sheet_of typed_of sheet_with
  triangles_at_lem at e =
      let k = counts_are in
      let x = starts_at l (header_bits s F.typed.six) (at_triangles d) at (d.particles * 23) (omega arith) (omega arith) in
      ap₂ (λ (n : ℕ) (m : List ℕ). read_rows triangle_w n m) k.1 x

  pub edges_at : (at : ℕ) → at ≡ start_of (bits_of s) + c.particles * 23 + c.triangles * 30 → read_rows edge_w c.edges (drop at (bits_of s)) ≡ (read_sheet s).edges
  unfolding sheet_of typed_of sheet_with
  edges_at at e =
      let k = counts_are in
      let x = starts_at l (header_bits s F.typed.six) (at_edges d) at (d.particles * 23 + d.triangles * 30) (omega arith) (omega arith) in
      ap₂ (λ (n : ℕ) (m : List ℕ). read_rows edge_w n m) k.2 x

  -- they lie inside the bytes
  pub particles_in : (at : ℕ) → at ≡ start_of (bits_of s) → RowsIn s (at + 44) 23 c.particles
  particles_in at e = let k = counts_are in let w = counts_small in let r = reach s d F.typed in record { room = omega arith; small = omega arith }

  pub triangles_in : (at : ℕ) → at ≡ start_of (bits_of s) + c.particles * 23 → RowsIn s (at + 44) 30 c.triangles
  triangles_in at e = let k = counts_are in let w = counts_small in let r = reach s d F.typed in record { room = omega arith; small = omega arith }

  pub edges_in : (at : ℕ) → at ≡ start_of (bits_of s) + c.particles * 23 + c.triangles * 30 → RowsIn s (at + 44) 21 c.edges
  edges_in at e = let k = counts_are in let w = counts_small in let r = reach s d F.typed in record { room = omega arith; small = omega arith }

  -- its blade
  pub blade_is : (at : ℕ) (f : Four) → BladeAt (bits_of s) at → BladeRead (bits_of s) at f → four_of f ≡ (read_sheet s).blade
  unfolding sheet_of typed_of sheet_with
  blade_is at f B R =
      let k = d.particles * 23 + d.triangles * 30 + d.edges * 21 + d.boundary * 20 in
      let x = starts_at l (header_bits s F.typed.six) (at_blade d) at k (omega arith) (omega (arith, B.is)) in
      R.is ∙ ap (unpack blade_w) x

-- ---- what is asked

module _ (s : List ℕ) (c : Counts) (o t : List ℕ) (e : Counts) (u : List ℕ) (F : FirstIn s c o) (G : FirstIn t e u) where
  pub ask_particles : (at from n : ℕ) → at ≡ start_of (bits_of s) → from ≡ start_of (bits_of t) → n ≤ 3000 → ListAsked Particles 11 1 s at c.particles t from e.particles n
  ask_particles at from n p q h =
      record {
        three = refl;
        narrow = omega arith;
        narrow_third = omega arith;
        coords = omega arith;
        rows = particles_in s c o F at p;
        rows_second = particles_in t e u G from q;
        few = omega (arith, counts_small s c o F);
        few_second = omega (arith, counts_small t e u G);
        counted = h;
      }

  pub ask_triangles : (at from n : ℕ) → at ≡ start_of (bits_of s) + c.particles * 23 → from ≡ start_of (bits_of t) + e.particles * 23 → n ≤ 3000 → ListAsked Triangles 10 10 s at c.triangles t from e.triangles n
  ask_triangles at from n p q h =
      record {
        three = refl;
        narrow = omega arith;
        narrow_third = omega arith;
        coords = omega arith;
        rows = triangles_in s c o F at p;
        rows_second = triangles_in t e u G from q;
        few = omega (arith, counts_small s c o F);
        few_second = omega (arith, counts_small t e u G);
        counted = h;
      }

  pub ask_edges : (at from n : ℕ) → at ≡ start_of (bits_of s) + c.particles * 23 + c.triangles * 30 → from ≡ start_of (bits_of t) + e.particles * 23 + e.triangles * 30 → n ≤ 3000 → ListAsked Edges 10 1 s at c.edges t from e.edges n
  ask_edges at from n p q h =
      record {
        three = refl;
        narrow = omega arith;
        narrow_third = omega arith;
        coords = omega arith;
        rows = edges_in s c o F at p;
        rows_second = edges_in t e u G from q;
        few = omega (arith, counts_small s c o F);
        few_second = omega (arith, counts_small t e u G);
        counted = h;
      }

  pub ask_sides : (n : ℕ) → n ≤ 3000 → SidesAsked c.boundary (length o) e.boundary (length u) n
  ask_sides n h =
      record {
        first = omega (arith, counts_small s c o F, F.block);
        second = omega (arith, counts_small t e u G, G.block);
        few = omega (arith, counts_small s c o F);
        few_second = omega (arith, counts_small t e u G);
        counted = h;
      }

-- ---- how many lines

pub rows_counted : (p : Part) (ws vs x y : List ℕ) (n m k : ℕ) {s₀ s₁ : List ℕ} {l₀ l₁ : Lines} → Lists (rows_differ p 0 (read_rows ws n x) (read_rows vs m y)) s₀ l₀ s₁ l₁ → l₀.count ≤ k → n ≤ 256 → m ≤ 256 → l₁.count ≤ k + 512
rows_counted p ws vs x y n m k L h f g =
    omega (arith, L.counted, rows_few p 0 (read_rows ws n x) (read_rows vs m y), length_read ws n x, length_read vs m y)

pub count_counted : (p : Part) (m n k : ℕ) {s₀ s₁ : List ℕ} {l₀ l₁ : Lines} → Lists (one_count p m n) s₀ l₀ s₁ l₁ → l₀.count ≤ k → l₁.count ≤ k + 1
count_counted p m n k L h = omega (arith, L.counted, pick_few (eqb m n) (counts p m n))

pub counts_few : (c d : Counts) {s₀ s₁ : List ℕ} {l₁ : Lines} → Lists (count_lines c d) s₀ start s₁ l₁ → l₁.count ≤ 4
counts_few c d L =
    let w = one_count Particles c.particles d.particles in
    let x = one_count Triangles c.triangles d.triangles in
    let y = one_count Edges c.edges d.edges in
    let z = one_count Boundary c.boundary d.boundary in
    omega (
      arith,
      L.counted,
      length-append (w ++ x ++ y) z,
      length-append (w ++ x) y,
      length-append w x,
      pick_few (eqb c.particles d.particles) (counts Particles c.particles d.particles),
      pick_few (eqb c.triangles d.triangles) (counts Triangles c.triangles d.triangles),
      pick_few (eqb c.edges d.edges) (counts Edges c.edges d.edges),
      pick_few (eqb c.boundary d.boundary) (counts Boundary c.boundary d.boundary),
    )

pub lists_few : (a b : Sheet) {s₀ s₁ : List ℕ} {l₀ l₁ : Lines} → Within a → Within b → Lists (list_lines a b) s₀ l₀ s₁ l₁ → l₀.count ≤ 4 → l₁.count ≤ 2048
lists_few a b A B L h =
    let x = rows_differ Particles 0 a.particles b.particles in
    let y = rows_differ Triangles 0 a.triangles b.triangles in
    let z = rows_differ Edges 0 a.edges b.edges in
    omega (
      arith,
      L.counted,
      length-append (x ++ y) z,
      length-append x y,
      rows_few Particles 0 a.particles b.particles,
      rows_few Triangles 0 a.triangles b.triangles,
      rows_few Edges 0 a.edges b.edges,
      A.particles,
      A.triangles,
      A.edges,
      B.particles,
      B.triangles,
      B.edges,
    )

-- ---- all of them

joined : (p t e b P T E B C : List Difference) → p ++ t ++ e ++ b ++ (P ++ T ++ E) ++ (B ++ C) ≡ (p ++ (t ++ (e ++ (b ++ []))) ++ (P ++ (T ++ (E ++ (B ++ [])))) ++ C)
joined p t e b P T E B C = simp (append_assoc, append-nil)

pub all_lines : (a b : Sheet) (c d : Counts) → counts_of a ≡ c → counts_of b ≡ d → count_lines c d ++ list_lines a b ++ rest_lines a b ≡ differences a b
unfolding differences count_differs each
all_lines a b c d e f =
    let q : count_lines c d ≡ count_lines (counts_of a) (counts_of b) = ap₂ count_lines (sym e) (sym f) in
    ap (λ (x : List Difference). x ++ list_lines a b ++ rest_lines a b) q
    ∙ joined (one_count Particles (length a.particles) (length b.particles)) (one_count Triangles (length a.triangles) (length b.triangles)) (one_count Edges (length a.edges) (length b.edges)) (one_count Boundary (length a.boundary) (length b.boundary))
    (rows_differ Particles 0 a.particles b.particles) (rows_differ Triangles 0 a.triangles b.triangles) (rows_differ Edges 0 a.edges b.edges) (rows_differ Boundary 0 a.boundary b.boundary)
    (pick (same_row_of a.blade b.blade) [] (blades a.blade b.blade ∷ []))

-- the number of the lines and the end of the text
pub text_written : (ds : List Difference) {s s₁ s₂ s₃ s₄ : List ℕ} {l : Lines} {r₂ r₃ r₄ : Option ℕ} → Lists ds s start s₁ l → Appends (decimal l.count) s₁ l.at s₂ r₂ → Appends (10 ∷ []) s₂ r₂ s₃ r₃ → Finishes s₃ r₃ s₄ r₄
    → length s₃ ≡ length s → Wrote (difference_text ds) (length s) s₄ r₄
unfolding difference_text
text_written ds {s} {s₁} {s₂} {s₃} {s₄} {l} {r₂} {r₃} {r₄} L A B E m =
    let n : l.count ≡ length ds = omega (arith, L.counted) in
    wrote (appends_as (appends_then (appends_then L.text A) B) (ap (λ (k : ℕ). each line_of ds ++ decimal k ++ (10 ∷ [])) n)) E m

-- ---- what is told

pub second_told : (a b : List ℕ) (d : Counts) (g : Bool) (lent : ℕ) (s : List ℕ) (r : Option ℕ) → seen_of limits b ≡ whole_with d g → Within (read_sheet a) → Within (read_sheet b)
    → Wrote (difference_text (differences (read_sheet a) (read_sheet b))) lent s r → Told (second_text a b) lent s r
second_told a b d g lent s r e A B w =
    subst (λ (x : Result Seen Refusal). Told (seconded x a b) lent s r) (sym e) (record { wrote = w; enough = text_few (read_sheet a) (read_sheet b) A B })

pub second_refused : (a b : List ℕ) (n : Refusal) (lent : ℕ) (s : List ℕ) (r : Option ℕ) → seen_of limits b ≡ Err n → number_of n < 18446744073709551616 → Wrote (refused_bytes (number_of n)) lent s r → Told (second_text a b) lent s r
second_refused a b n lent s r e h w = subst (λ (x : Result Seen Refusal). Told (seconded x a b) lent s r) (sym e) (record { wrote = w; enough = refused_few (number_of n) h })

seconded_is : (c : Counts) (f : Bool) (v : Result Seen Refusal) (a b : List ℕ) → seconded v a b ≡ differed_seen (whole_with c f) v a b
unfolding differed_seen
seconded_is c f (Err n) a b = refl
seconded_is c f (Ok d) a b = refl

pub first_whole : (a b : List ℕ) (c : Counts) (f : Bool) (lent : ℕ) (s : List ℕ) (r : Option ℕ) → seen_of limits a ≡ whole_with c f → Told (second_text a b) lent s r → Told (differed a b) lent s r
first_whole a b c f lent s r e T =
    subst (λ (x : List ℕ). Told x lent s r) (seconded_is c f (seen_of limits b) a b ∙ ap (λ (x : Result Seen Refusal). differed_seen x (seen_of limits b) a b) (sym e)) T

pub first_refused : (a b : List ℕ) (n : Refusal) (lent : ℕ) (s : List ℕ) (r : Option ℕ) → seen_of limits a ≡ Err n → number_of n < 18446744073709551616 → Wrote (refused_bytes (number_of n)) lent s r → Told (differed a b) lent s r
unfolding differed_seen
first_refused a b n lent s r e h w = subst (λ (x : Result Seen Refusal). Told (differed_seen x (seen_of limits b) a b) lent s r) (sym e) (record { wrote = w; enough = refused_few (number_of n) h })
