-- Reading and writing undo each other, told of what the functions return: the mesh and the blade that a reading of a second-edition sheet leaves, written, are the sheet that was read; and
-- the mesh and the blade read from a sheet that was written are to a writer what was handed in.
use Prim.Native.Nat.{ℕ, zero, suc, ◌+◌, ◌<◌}
use mathlib.Core.Path.{◌≡◌, refl, ap, ap₂, sym, ◌∙◌}
use mathlib.Core.List.{List, [], ◌∷◌, map}
use mathlib.Core.Bool.{Bool, true, ◌&&◌}
use native.Mathlib.Omega.{arith}
use lib.IntN.{ℤ}
use lib.ListN.{length, get_or, take, drop, length-map}
use lib.Seq.{take_at}
use lib.Dec.{ltb}
use lib.Ieee.{Float, ne, eq}
use borrow.Author.Tests.{ltb-true}
use Rattle.lists.specs.Lists.{map_at_of, padded, tab}
use Rattle.columns.proofs.Rows.{tab_ext, tab_of}
use Rattle.float.specs.Numbers.{zero32}
use Rattle.blade.specs.declared.Point.{Point}
use Rattle.model.specs.Mesh.{Particle, Triangle, Edge}
use Rattle.mesh.specs.Filled.{corner_of}
use Rattle.mesh.specs.At.{mesh_at}
use Rattle.mesh.specs.Given.{Lent}
use Rattle.mesh.specs.Filled.{lent}
use Rattle.lists.proofs.Sifts.{and_true}
use Rattle.bits.specs.Bits.{bits_of}
use Rattle.bits.specs.Rows.{Fit, FitAll, read_rows, rows_of, col}
use Rattle.sheet.specs.Sheet.{Sheet, Columns, the_field_of, coord, columns_of, counts_at, sheet_from, sheet_with, particle_w, boundary_w, blade_w, at_boundary, all_below, fit3, fit_of}
use Rattle.sheet.specs.Read.{the_float_of, the_inverse_of, particle_from, particles_from, triangle_from, triangles_from, edge_from, edges_from, place_in, mesh_of_sheet, blade_of_sheet, counts_for}
use Rattle.sheet.specs.declared.Counts.{Counts}
use Rattle.sheet.proofs.CoordLaws.{coord_whole, field_coord, coord_field}
use Rattle.sheet.proofs.Back.{row3, below_col, fit_length, blade_below}
use Rattle.edition.specs.Edition.{second, bits_in_of, bounded, own_of, typed_of, sheet_of, seen_of, whole_with}
use Rattle.edition.specs.Reading.{blade_left, ReadDone}
use Rattle.edition.proofs.Editions.{counts_second}
use Rattle.edition.proofs.Starts.{in_second, header_bits, typed_in}
use Rattle.edition.proofs.Counted.{mesh_read}
use Rattle.edition.proofs.Entering.{seen_whole_tells, lent_whole}
use Rattle.sheet_writing.specs.Writing.{Handed, columns_from, whole_of, pinned_of, handed_of, WriteDone}
use Rattle.sheet_writing.proofs.Putting.{Good, good}
use Rattle.sheet_writing.proofs.Trips as T

-- ---- what a sheet's mesh and blade are to a writer

-- the float of a field is the field's whole number
whole_float : (n : ℕ) → n < 2048 → whole_of (the_float_of n) ≡ coord n
unfolding the_float_of
whole_float n h = coord_whole n h

-- a flag is told again by the inverse mass
pinned_again : (n : ℕ) → n < 2 → pinned_of (the_inverse_of n) ≡ n
unfolding pinned_of the_inverse_of ne eq
pinned_again zero h = refl
pinned_again (suc zero) h = refl
pinned_again (suc (suc n)) h = absurd (omega arith)

-- one field of each particle that rows were read as
particle_col : {C : Type 0} (h : Particle → C) (f : List ℕ → C) (g : ℕ → List ℕ → Particle) → ((k : ℕ) (r : List ℕ) → Fit particle_w r → h (g k r) ≡ f r)
    → (rows : List (List ℕ)) → FitAll particle_w rows → map h (map_at_of g rows) ≡ map f rows
unfolding map_at_of FitAll
particle_col h f g e [] q = refl
particle_col h f g e (r ∷ rows) q = rw (e 0 r q.0, particle_col h f (λ k. g (suc k)) (λ k. e (suc k)) rows q.1)

map_map : {A B C : Type 0} (h : B → C) (g : A → B) (l : List A) → map h (map g l) ≡ map (λ (a : A). h (g a)) l
map_map h g [] = refl
map_map h g (a ∷ l) = rw (map_map h g l)

-- the columns of a sheet but its boundary's, coordinates as whole numbers
abbrev handed_in : Sheet → Handed
handed_in s = record {
  x = map coord (col 0 s.particles);
  y = map coord (col 1 s.particles);
  pinned = col 2 s.particles;
  t0 = col 0 s.triangles;
  t1 = col 1 s.triangles;
  t2 = col 2 s.triangles;
  e0 = col 0 s.edges;
  e1 = col 1 s.edges;
  structural = col 2 s.edges;
  blade = map coord s.blade;
}

module _ (s : Sheet) (q : FitAll particle_w s.particles) where
  whole_x : map (λ (p : Particle). whole_of p.x) (particles_from s.particles) ≡ map coord (col 0 s.particles)
  unfolding particles_from particle_from
  whole_x = particle_col (λ p. whole_of p.x) (λ r. coord (get_or r 0 0)) _ (λ k r f. whole_float (get_or r 0 0) (row3 11 11 1 r f).1) s.particles q ∙ sym (map_map coord (λ r. get_or r 0 0) s.particles)

  whole_y : map (λ (p : Particle). whole_of p.y) (particles_from s.particles) ≡ map coord (col 1 s.particles)
  unfolding particles_from particle_from
  whole_y = particle_col (λ p. whole_of p.y) (λ r. coord (get_or r 1 0)) _ (λ k r f. whole_float (get_or r 1 0) (row3 11 11 1 r f).2) s.particles q ∙ sym (map_map coord (λ r. get_or r 1 0) s.particles)

  whole_pinned : map (λ (p : Particle). pinned_of p.inv) (particles_from s.particles) ≡ col 2 s.particles
  unfolding particles_from particle_from
  whole_pinned = particle_col (λ p. pinned_of p.inv) (λ r. get_or r 2 0) _ (λ k r f. pinned_again (get_or r 2 0) (row3 11 11 1 r f).3) s.particles q

triangle_col : {C : Type 0} (place : ℕ → Point) (h : Triangle → C) (rows : List (List ℕ)) → map h (triangles_from place rows) ≡ map (λ (r : List ℕ). h (triangle_from place (get_or r 0 0) (get_or r 1 0) (get_or r 2 0))) rows
unfolding triangles_from
triangle_col place h rows = map_map h _ rows

edge_col : {C : Type 0} (place : ℕ → Point) (h : Edge → C) (rows : List (List ℕ)) → map h (edges_from place rows) ≡ map (λ (r : List ℕ). h (edge_from place (get_or r 0 0) (get_or r 1 0) (get_or r 2 0))) rows
unfolding edges_from
edge_col place h rows = map_map h _ rows

whole_blade : (d : List ℕ) → all_below 2048 d ≡ true → map whole_of (map the_float_of d) ≡ map coord d
unfolding all_below
whole_blade [] e = refl
whole_blade (n ∷ d) e = let w = and_true (ltb n 2048) (all_below 2048 d) e in rw (whole_float n (ltb-true n 2048 w.0), whole_blade d w.1)

-- the mesh and the blade that a sheet is are to a writer its own columns
pub handed_read : (s : Sheet) → FitAll particle_w s.particles → all_below 2048 s.blade ≡ true → handed_of (mesh_of_sheet s) (blade_of_sheet s) ≡ handed_in s
unfolding handed_of mesh_of_sheet blade_of_sheet triangle_from edge_from
handed_read s q d =
    let place = place_in (particles_from s.particles) in
    rw (
      whole_x s q,
      whole_y s q,
      whole_pinned s q,
      triangle_col place (corner_of 0) s.triangles,
      triangle_col place (corner_of 1) s.triangles,
      triangle_col place (corner_of 2) s.triangles,
      edge_col place (λ e. e.a) s.edges,
      edge_col place (λ e. e.b) s.edges,
      edge_col place (λ e. e.structural) s.edges,
      whole_blade s.blade d,
    )

-- the field of each whole number of a column of fields
fields_again : (a : List ℕ) → all_below 2048 a ≡ true → map the_field_of (map coord a) ≡ a
unfolding all_below
fields_again [] e = refl
fields_again (n ∷ a) e = let w = and_true (ltb n 2048) (all_below 2048 a) e in rw (field_coord n (ltb-true n 2048 w.0), fields_again a w.1)

-- and the whole number of each field
wholes_again : (a : List ℤ) → all_below 2048 (map the_field_of a) ≡ true → map coord (map the_field_of a) ≡ a
unfolding all_below
wholes_again [] e = refl
wholes_again (z ∷ a) e = let w = and_true (ltb (the_field_of z) 2048) (all_below 2048 (map the_field_of a)) e in rw (coord_field z (ltb-true (the_field_of z) 2048 w.0), wholes_again a w.1)

-- so the fields of what it is handed are the sheet's
fields_read : (s : Sheet) → FitAll particle_w s.particles → all_below 2048 s.blade ≡ true → columns_from (handed_in s) ≡ columns_of (bounded [] s)
fields_read s q d =
    let x : all_below 2048 (col 0 s.particles) ≡ true = below_col particle_w 0 (omega arith) s.particles q in
    let y : all_below 2048 (col 1 s.particles) ≡ true = below_col particle_w 1 (omega arith) s.particles q in
    rw (fields_again (col 0 s.particles) x, fields_again (col 1 s.particles) y, fields_again s.blade d)

-- ---- a sheet read

four_first : (n : ℕ) (d : List ℕ) → length d ≡ 4 → take 4 (padded n zero32 (map the_float_of d)) ≡ map the_float_of d
unfolding padded
four_first n d h = take_at (map the_float_of d) _ 4 (length-map d the_float_of ∙ h)

-- what a reading that was not refused left: the sheet's mesh in the blocks, and its blade
module _ (limits : Counts) (s : List ℕ) (L : Lent) (c : Counts) (f : Bool) (p : List Float) (q k : List ℕ) (v : List Float) (e : List ℕ) (l : List Float) (o g : List ℕ) (b b' : List Float)
    (R : ReadDone limits s L (whole_with c f) p q k v e l o g b b') (same : lent p q k v e l o g ≡ L) (two : second (bits_of s) ≡ true) where
  pub read_seen : seen_of limits s ≡ whole_with c f
  read_seen = lent_whole (seen_of limits s) L (length b) c f (sym R.answer)

  -- the sheet as it is typed
  abbrev typed : Sheet
  typed = sheet_with (counts_at (bits_in_of (bits_of s))) (bits_in_of (bits_of s))

  fit_p : FitAll particle_w typed.particles
  fit_p = T.fit_p limits s c f read_seen two

  fit_d : Fit blade_w typed.blade
  fit_d = T.fit_d limits s c f read_seen two

  -- and as it is read
  read_as : (sheet_of (bits_of s)).sheet ≡ bounded (sheet_of (bits_of s)).sheet.boundary typed
  unfolding sheet_of typed_of
  read_as = refl

  pub read_mesh : mesh_at (counts_for c) p q k v e l o ≡ mesh_of_sheet (sheet_of (bits_of s)).sheet
  read_mesh = mesh_read limits s L c f p q k v e l o g b b' R same

  pub read_blade : take 4 b' ≡ blade_of_sheet (sheet_of (bits_of s)).sheet
  unfolding blade_left blade_of_sheet sheet_of typed_of
  read_blade = ap (λ (x : List Float). take 4 x) R.blade ∙ four_first (length b) typed.blade (fit_length blade_w typed.blade fit_d)

  -- a second-edition sheet has no boundary
  none : typed.boundary ≡ []
  unfolding sheet_with read_rows
  none =
      let d = counts_at (bits_in_of (bits_of s)) in
      let six = (typed_in limits s d (seen_whole_tells limits s c f read_seen).typed).six in
      let n : d.boundary ≡ 0 = ap (λ (x : List ℕ). (counts_at x).boundary) (in_second (bits_of s) two) ∙ ap (λ (x : Counts). x.boundary) (counts_second (bits_of s) (header_bits s six)) in
      ap (λ (j : ℕ). read_rows boundary_w j (drop (at_boundary d) (bits_in_of (bits_of s)))) n

  -- to a writer that mesh and that blade are the sheet's fields
  pub fields_left : columns_from (handed_of (mesh_at (counts_for c) p q k v e l o) (take 4 b')) ≡ columns_of typed
  fields_left =
      let r = (sheet_of (bits_of s)).sheet in
      let z = r.boundary in
      let d : all_below 2048 typed.blade ≡ true = blade_below typed.blade fit_d in
      ap columns_from
      (ap₂ handed_of read_mesh read_blade ∙ (ap (λ (x : Sheet). handed_of (mesh_of_sheet x) (blade_of_sheet x)) read_as ∙ handed_read (bounded z typed) fit_p d))
      ∙ (fields_read (bounded z typed) fit_p d ∙ ap (λ (x : List (List ℕ)). columns_of (bounded x typed)) (sym none))

  -- written again, they are the sheet
  pub read_then_write : (before after : List ℕ) (r : ℕ) → length before ≡ length s → ((i : ℕ) → get_or s i 0 < 256) → ((i : ℕ) → get_or after i 0 < 256)
      → WriteDone (handed_of (mesh_at (counts_for c) p q k v e l o) (take 4 b')) before after r → (r ≡ 0) × (after ≡ s)
  read_then_write before after r n hs ha w = T.read_then_write limits s c f read_seen two (handed_of (mesh_at (counts_for c) p q k v e l o) (take 4 b')) fields_left before after r n hs ha w

-- ---- a sheet written

-- a column of rows that columns make is that column
rows_tab : {C : Type 0} (h : List ℕ → C) (cols : List (List ℕ)) (i n : ℕ) → map h (rows_of cols i n) ≡ tab n (λ (k : ℕ). h (map (λ (c : List ℕ). get_or c (i + k) 0) cols))
unfolding rows_of tab
rows_tab h cols i zero = refl
rows_tab h cols i (suc n) =
    let e : i + 0 ≡ i = omega arith in
    let t : tab n (λ (k : ℕ). h (map (λ (c : List ℕ). get_or c (i + 1 + k) 0) cols)) ≡ tab n (λ (k : ℕ). h (map (λ (c : List ℕ). get_or c (i + suc k) 0) cols)) =
    tab_ext n _ _ (λ k q. let f : i + 1 + k ≡ i + suc k = omega arith in ap (λ (j : ℕ). h (map (λ (c : List ℕ). get_or c j 0) cols)) f) in
    rw (e, rows_tab h cols (i + 1) n, t)

column_of : (a : List ℕ) (n : ℕ) → length a ≡ n → tab n (λ (k : ℕ). get_or a (0 + k) 0) ≡ a
column_of a n e =
    tab_ext n _ _ (λ k q. let f : 0 + k ≡ k = omega arith in ap (λ (j : ℕ). get_or a j 0) f) ∙ (ap (λ (j : ℕ). tab j (λ (k : ℕ). get_or a k 0)) (sym e) ∙ tab_of a 0)

module _ (a b c : List ℕ) (eb : length b ≡ length a) (ec : length c ≡ length a) where
  col_0 : col 0 (rows_of (a ∷ b ∷ c ∷ []) 0 (length a)) ≡ a
  col_0 = rows_tab (λ (r : List ℕ). get_or r 0 0) (a ∷ b ∷ c ∷ []) 0 (length a) ∙ column_of a (length a) refl

  col_1 : col 1 (rows_of (a ∷ b ∷ c ∷ []) 0 (length a)) ≡ b
  col_1 = rows_tab (λ (r : List ℕ). get_or r 1 0) (a ∷ b ∷ c ∷ []) 0 (length a) ∙ column_of b (length a) eb

  col_2 : col 2 (rows_of (a ∷ b ∷ c ∷ []) 0 (length a)) ≡ c
  col_2 = rows_tab (λ (r : List ℕ). get_or r 2 0) (a ∷ b ∷ c ∷ []) 0 (length a) ∙ column_of c (length a) ec

fits_three : (l m n : ℕ) (a b c : List ℕ) → fit3 l m n a b c ≡ true → (all_below l a ≡ true) × (all_below m b ≡ true) × (all_below n c ≡ true)
unfolding fit3
fits_three l m n a b c e =
    let w = and_true (all_below l a) (all_below m b && all_below n c) e in
    let v = and_true (all_below m b) (all_below n c) w.1 in
    (w.0, v.0, v.1)

-- the bits hold the particles' numbers and the blade's
particles_fit : (k : Columns) → fit_of k ≡ true → fit3 2048 2048 2 k.x k.y k.pinned ≡ true
particles_fit k e =
    (and_true (fit3 2048 2048 2 k.x k.y k.pinned) (fit3 1024 1024 1024 k.t0 k.t1 k.t2 && (fit3 1024 1024 2 k.e0 k.e1 k.structural && (fit3 1024 1024 1024 k.b0 k.b1 k.b1 && all_below 2048 k.blade))) e).0

blade_fits : (k : Columns) → fit_of k ≡ true → all_below 2048 k.blade ≡ true
blade_fits k e =
    let w1 = and_true (fit3 2048 2048 2 k.x k.y k.pinned) (fit3 1024 1024 1024 k.t0 k.t1 k.t2 && (fit3 1024 1024 2 k.e0 k.e1 k.structural && (fit3 1024 1024 1024 k.b0 k.b1 k.b1 && all_below 2048 k.blade))) e in
    let w2 = and_true (fit3 1024 1024 1024 k.t0 k.t1 k.t2) (fit3 1024 1024 2 k.e0 k.e1 k.structural && (fit3 1024 1024 1024 k.b0 k.b1 k.b1 && all_below 2048 k.blade)) w1.1 in
    let w3 = and_true (fit3 1024 1024 2 k.e0 k.e1 k.structural) (fit3 1024 1024 1024 k.b0 k.b1 k.b1 && all_below 2048 k.blade) w2.1 in
    (and_true (fit3 1024 1024 1024 k.b0 k.b1 k.b1) (all_below 2048 k.blade) w3.1).1

-- what a writer accepts is what the sheet's columns are to it
handed_written : (h : Handed) (m : ℕ) → Good (columns_from h) m → handed_in (sheet_from (columns_from h)) ≡ h
handed_written h m g =
    let k = columns_from h in
    let v = g.even in
    let x = fits_three 2048 2048 2 k.x k.y k.pinned (particles_fit k g.fit) in
    rw (
      col_0 k.x k.y k.pinned v.y v.pinned,
      col_1 k.x k.y k.pinned v.y v.pinned,
      col_2 k.x k.y k.pinned v.y v.pinned,
      col_0 k.t0 k.t1 k.t2 v.t1 v.t2,
      col_1 k.t0 k.t1 k.t2 v.t1 v.t2,
      col_2 k.t0 k.t1 k.t2 v.t1 v.t2,
      col_0 k.e0 k.e1 k.structural v.e1 v.structural,
      col_1 k.e0 k.e1 k.structural v.e1 v.structural,
      col_2 k.e0 k.e1 k.structural v.e1 v.structural,
      wholes_again h.x x.0,
      wholes_again h.y x.1,
      wholes_again h.blade (blade_fits k g.fit),
    )

-- a sheet that was written, read: the blocks hold the mesh of what was handed in, with its outline, the blade is that blade, and both are to a writer what was handed in
module _ (h : Handed) (before after : List ℕ) (same : length after ≡ length before) (W : WriteDone h before after 0) where
  module _ (limits : Counts) (L : Lent) (c : Counts) (f : Bool) (p : List Float) (q k : List ℕ) (v : List Float) (e : List ℕ) (l : List Float) (o g : List ℕ) (b b' : List Float)
      (R : ReadDone limits (T.written h before after same W) L (whole_with c f) p q k v e l o g b b') (kept : lent p q k v e l o g ≡ L) where
    abbrev s : Sheet
    s = sheet_from (columns_from h)

    pub write_then_read :
        (mesh_at (counts_for c) p q k v e l o ≡ mesh_of_sheet (bounded (own_of s) s)) × (take 4 b' ≡ blade_of_sheet s) × (handed_of (mesh_at (counts_for c) p q k v e l o) (take 4 b') ≡ h)
    unfolding blade_of_sheet
    write_then_read =
        let G : Good (columns_from h) (length before) = good (columns_from h) (length before) (sym W.answer) in
        let two = T.written_second h before after same W in
        let z : (sheet_of (bits_of (T.written h before after same W))).sheet ≡ bounded (own_of s) s = ap (λ y. y.sheet) (T.written_means h before after same W) in
        let m : mesh_at (counts_for c) p q k v e l o ≡ mesh_of_sheet (bounded (own_of s) s) = read_mesh limits (T.written h before after same W) L c f p q k v e l o g b b' R kept two ∙ ap mesh_of_sheet z in
        let d : take 4 b' ≡ blade_of_sheet s = read_blade limits (T.written h before after same W) L c f p q k v e l o g b b' R kept two ∙ ap blade_of_sheet z in
        let n : handed_of (mesh_of_sheet (bounded (own_of s) s)) (blade_of_sheet s) ≡ h = handed_read (bounded (own_of s) s) (T.fits h before after same W).particles (blade_fits (columns_from h) G.fit) ∙ handed_written h (length before) G in
        (m, d, ap₂ handed_of m d ∙ n)
