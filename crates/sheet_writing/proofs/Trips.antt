-- On bytes, in the second edition: what was written is read as what was handed in, and what is read is written again byte for byte. Assumes nothing.
use Prim.Native.Nat.{ℕ, ◌+◌, ◌-◌, ◌*◌, ◌^◌, ◌<◌, ◌≤◌}
use mathlib.Core.Path.{◌≡◌, refl, sym, ap, ap₂, ◌∙◌, subst}
use mathlib.Core.Bool.{Bool, true, false}
use mathlib.Core.List.{List, [], ◌∷◌, ◌++◌}
use native.Mathlib.Omega.{arith}
use borrow.Author.Tests.{le-ltb, le-leb, eq-eqb}
use lib.Dec.{ltb, leb}
use lib.ListN.{length, take, drop, get_or, replicate, length-drop, length-replicate, take-append-drop}
use lib.Seq.{take-append-add, drop_at, take_all, length-take-le}
use Rattle.lists.specs.Lists.{padded}
use Rattle.bits.specs.Bits.{bits_of, num, field_at}
use Rattle.bits.specs.Rows.{Fit, FitAll, rows_of, col}
use Rattle.bits.proofs.Laws.{length_bits_of}
use Rattle.bits.proofs.RowLaws.{zeros_of, take_zeros, bits_bits_of, bits_drop}
use Rattle.mesh.specs.Given.{Lent}
use Rattle.mesh.specs.Filled.{Filled}
use lib.Ieee.{Float}
use Rattle.sheet.specs.Sheet.{Sheet, Columns, sheet_from, columns_of, counts_in, counts_of, counts_at, sheet_with, sheet_bits, particle_w, boundary_w, blade_w, bytes_of, even3, even_of, fit3, fit_of, all_below, too_many_of, above, names_ok, FitSheet}
use Rattle.sheet.specs.Read.{mesh_of_sheet}
use Rattle.sheet.specs.declared.Counts.{Counts}
use Rattle.std.specs.Prelude.{Result, Ok}
use Rattle.mesh.specs.declared.refusals.Refusal.{Refusal}
use Rattle.edition.specs.declared.Seen.{Seen}
use Rattle.sheet.proofs.PutLaws as F
use Rattle.sheet.proofs.There.{fit_sheet, bits_of_take, num_zeros}
use Rattle.sheet.proofs.Trip.{same_counts, counts_read}
use Rattle.sheet.proofs.Back.{bits_of_inj, length_col, rows_cols3, rows_cols2, below_col, fit_length, blade_below}
use Rattle.edition.specs.Edition.{second, bits_in_of, sheet2_bits, bounded, own_of, outline_in, typed_of, sheet_of, bytes_in, end_in, typed_with, typed_seen, seen_in, seen_of, whole_with}
use Rattle.edition.specs.Reading.{room_for, lent_of, world_of, ReadDone}
use Rattle.sheet_writing.specs.Writing.{Handed, columns_from, answer_of, put_of, WriteDone}
use Rattle.edition.specs.Work.{TypedIn}
use Rattle.edition.proofs.Editions.{bits_in, is_second, second_read, written_read, read_written, length_second}
use Rattle.edition.proofs.Starts.{typed_in, header_bits}
use Rattle.edition.proofs.Fields.{typed_counts_lem, typed_fit}
use Rattle.edition.proofs.Entering.{outlined, seen_whole_tells}
use Rattle.sheet_writing.proofs.Putting.{Good, good, put_some}

typed_from : (lim : Counts) (s : List ℕ) (c : Counts) → counts_at (bits_in_of (bits_of s)) ≡ c → 6 ≤ length s → typed_seen lim s ≡ typed_with lim c s
unfolding typed_seen
typed_from lim s c e h = rw (le-ltb (length s) 6 h) (ap (λ (d : Counts). typed_with lim d s) e)

-- ---- what was written is read

module _ (h : Handed) (before after : List ℕ) (same : length after ≡ length before) (W : WriteDone h before after 0) where
  abbrev k : Columns
  k = columns_from h

  abbrev s : Sheet
  s = sheet_from (columns_from h)

  abbrev n : ℕ
  n = bytes_in true (counts_in (columns_from h))

  abbrev z : List ℕ
  z = replicate {A = ℕ} (8 * bytes_in true (counts_in (columns_from h)) - end_in true (counts_in (columns_from h))) 0

  g : Good k (length before)
  g = good k (length before) (sym W.answer)

  long : length (sheet2_bits s) ≡ end_in true (counts_in k)
  long =
      let np = F.length_rows_of (k.x ∷ k.y ∷ k.pinned ∷ []) 0 (length k.x) in
      let nt = F.length_rows_of (k.t0 ∷ k.t1 ∷ k.t2 ∷ []) 0 (length k.t0) in
      let ne = F.length_rows_of (k.e0 ∷ k.e1 ∷ k.structural ∷ []) 0 (length k.e0) in
      omega (arith, length_second s)

  -- the bytes of the sheet, without those behind it
  abbrev pub written : List ℕ
  written = take (bytes_in true (counts_in (columns_from h))) after

  written_bits : bits_of written ≡ sheet2_bits s ++ z
  unfolding padded
  written_bits =
      let x = sheet2_bits s in
      let r = g.room in
      let lx = long in
      let d = 8 * n - end_in true (counts_in k) in
      let y = replicate {A = ℕ} (8 * length before - length x) 0 in
      let e : 8 * n ≡ length x + d = omega arith in
      bits_of_take n after
      ∙ (ap (take (8 * n)) (W.bits ∙ ap (padded (8 * length before) 0) (sym (put_some s)))
      ∙ (ap (λ (j : ℕ). take j (x ++ y)) e ∙ (take-append-add x y d ∙ ap (λ (l : List ℕ). x ++ l) (take_zeros d (8 * length before - length x) (omega arith)))))

  none : s ≡ bounded [] s
  unfolding rows_of
  none = refl

  pub fits : FitSheet (bounded [] s)
  fits = subst FitSheet none (fit_sheet k (bytes_of (counts_in k)) (record { even = g.even; counts = g.counts; few = g.few; fit = g.fit; names = g.names; room = omega arith }))

  pub written_second : second (bits_of written) ≡ true
  written_second = ap second written_bits ∙ is_second s z

  -- the sheet read is what was handed in, with the outline of the mesh, and not replaced
  pub written_means : sheet_of (bits_of written) ≡ record { sheet = bounded (own_of s) s; replaced = false }
  written_means = ap sheet_of written_bits ∙ written_read s z fits

  counts_here : counts_of (bounded [] s) ≡ counts_in k
  counts_here = rw (F.length_rows_of (k.x ∷ k.y ∷ k.pinned ∷ []) 0 (length k.x), F.length_rows_of (k.t0 ∷ k.t1 ∷ k.t2 ∷ []) 0 (length k.t0), F.length_rows_of (k.e0 ∷ k.e1 ∷ k.structural ∷ []) 0 (length k.e0))

  written_counts : counts_at (bits_in_of (bits_of written)) ≡ counts_in k
  written_counts =
      ap (λ (l : List ℕ). counts_at (bits_in_of l)) written_bits
      ∙ (ap counts_at (bits_in s z) ∙ (same_counts (counts_at (sheet_bits (bounded [] s) ++ z)) (counts_of (bounded [] s)) (counts_read (bounded [] s) z fits) ∙ counts_here))

  written_typed : sheet_with (counts_in k) (bits_in_of (bits_of written)) ≡ s
  unfolding typed_of
  written_typed = ap (λ (c : Counts). sheet_with c (bits_in_of (bits_of written))) (sym written_counts) ∙ (ap typed_of written_bits ∙ (second_read s z fits ∙ sym none))

  written_long : length written ≡ n
  written_long = length-take-le n after (omega (arith, g.room))

  written_spare : field_at (bits_of written) (end_in true (counts_in k)) (8 * n - end_in true (counts_in k)) ≡ 0
  written_spare =
      let d = 8 * n - end_in true (counts_in k) in
      ap (λ (l : List ℕ). field_at l (end_in true (counts_in k)) d) written_bits
      ∙ (ap (λ (l : List ℕ). num (take d l)) (drop_at (sheet2_bits s) z (end_in true (counts_in k)) long) ∙ (ap num (take_all d z (omega (arith, length-replicate {A = ℕ} d 0))) ∙ num_zeros d))

  written_typed_seen : (lim : Counts) → above lim (counts_in k) ≡ false → typed_seen lim written ≡ Ok (counts_in k)
  unfolding typed_with
  written_typed_seen lim few =
      let w = written_long in
      let six : 6 ≤ length written = omega arith in
      let m : names_ok (sheet_with (counts_in k) (bits_in_of (bits_of written))) ≡ true = ap names_ok written_typed ∙ g.names in
      typed_from lim written (counts_in k) written_counts six
      ∙ rw (written_second, g.few, few, m, eq-eqb (length written) n written_long, eq-eqb (field_at (bits_of written) (end_in true (counts_in k)) (8 * n - end_in true (counts_in k))) 0 written_spare)

  -- it is accepted, where the reader's own limits are not passed
  pub written_seen : (lim : Counts) → above lim (counts_in k) ≡ false → length (own_of s) ≤ lim.boundary → seen_of lim written ≡ whole_with (outlined (counts_in k) (length (own_of s))) false
  unfolding seen_in
  written_seen lim few most = rw (written_typed_seen lim few, written_means, g.short, le-ltb lim.boundary (length (own_of s)) most)

  -- so a reader refuses it for room alone, and else the blocks hold the mesh of what was handed in
  pub only_room : (lim : Counts) → above lim (counts_in k) ≡ false → length (own_of s) ≤ lim.boundary → (L : Lent) (r : Result Seen Refusal) (p : List Float) (q c : List ℕ) (v : List Float) (e : List ℕ) (l : List Float) (o t : List ℕ) (b b' : List Float)
      → ReadDone lim written L r p q c v e l o t b b' → r ≡ room_for (outlined (counts_in k) (length (own_of s))) false L (length b)
  unfolding lent_of
  only_room lim few most L r p q c v e l o t b b' R = R.answer ∙ ap (λ (x : Result Seen Refusal). lent_of x L (length b)) (written_seen lim few most)

  pub write_then_read : (lim : Counts) (d : Counts) (f : Bool) (L : Lent) (p : List Float) (q c : List ℕ) (v : List Float) (e : List ℕ) (l : List Float) (o t : List ℕ) (b b' : List Float)
      → ReadDone lim written L (whole_with d f) p q c v e l o t b b' → Filled (record { mesh = mesh_of_sheet (bounded (own_of s) s); log = [] }) L p q c v e l o t
  unfolding world_of
  write_then_read lim d f L p q c v e l o t b b' R = subst (λ (x : Sheet). Filled (record { mesh = mesh_of_sheet x; log = [] }) L p q c v e l o t) (ap (λ y. y.sheet) written_means) R.blocks

-- ---- what is read is written again

even_col : (rs : List (List ℕ)) (i j k : ℕ) → even3 (col i rs) (col j rs) (col k rs) ≡ true
unfolding even3
even_col rs i j k =
    rw (eq-eqb (length (col j rs)) (length (col i rs)) (length_col rs j ∙ sym (length_col rs i)), eq-eqb (length (col k rs)) (length (col i rs)) (length_col rs k ∙ sym (length_col rs i)))

fit_col : (u v w : ℕ) (rs : List (List ℕ)) → FitAll (u ∷ v ∷ w ∷ []) rs → fit3 (2 ^ u) (2 ^ v) (2 ^ w) (col 0 rs) (col 1 rs) (col 2 rs) ≡ true
unfolding fit3
fit_col u v w rs f = rw (below_col (u ∷ v ∷ w ∷ []) 0 (omega arith) rs f, below_col (u ∷ v ∷ w ∷ []) 1 (omega arith) rs f, below_col (u ∷ v ∷ w ∷ []) 2 (omega arith) rs f)

fit_col2 : (rs : List (List ℕ)) → FitAll boundary_w rs → fit3 1024 1024 1024 (col 0 rs) (col 1 rs) (col 1 rs) ≡ true
unfolding fit3
fit_col2 rs f =
    let p : all_below 1024 (col 0 rs) ≡ true = below_col boundary_w 0 (omega arith) rs f in
    let q : all_below 1024 (col 1 rs) ≡ true = below_col boundary_w 1 (omega arith) rs f in
    rw (p, q)

module _ (lim : Counts) (s : List ℕ) (c : Counts) (f : Bool) (whole : seen_of lim s ≡ whole_with c f) (two : second (bits_of s) ≡ true) where
  abbrev l : List ℕ
  l = bits_of s

  abbrev d : Counts
  d = counts_at (bits_in_of (bits_of s))

  abbrev S : Sheet
  S = sheet_with (counts_at (bits_in_of (bits_of s))) (bits_in_of (bits_of s))

  t : TypedIn s d
  t = typed_in lim s d (seen_whole_tells lim s c f whole).typed

  length_is : length s ≡ bytes_in true d
  length_is = subst (λ (u : Bool). length s ≡ bytes_in u d) two t.long

  typed_is : typed_of l ≡ S
  unfolding typed_of
  typed_is = refl

  -- the bits of the sheet are those of its meaning, and 0 to the byte
  back_bits : bits_of s ≡ padded (8 * length s) 0 (sheet2_bits S)
  unfolding padded
  back_bits =
      let e = end_in true d in
      let m = length_bits_of s in
      let q = length_is in
      let w : sheet2_bits S ≡ take e l = ap sheet2_bits (sym typed_is) ∙ read_written l (bits_bits_of s) two (header_bits s t.six) (omega arith) in
      let r : length (drop e l) ≡ 8 * bytes_in true d - e = omega (arith, length-drop e l) in
      let u : take (8 * bytes_in true d - e) (drop e l) ≡ drop e l = take_all (8 * bytes_in true d - e) (drop e l) (omega arith) in
      let sp : field_at l e (8 * bytes_in true d - e) ≡ 0 = subst (λ (b : Bool). field_at l (end_in b d) (8 * bytes_in b d - end_in b d) ≡ 0) two t.spare in
      let y : drop e l ≡ replicate (length (drop e l)) 0 = zeros_of (drop e l) (bits_drop e l (bits_bits_of s)) (ap num (sym u) ∙ sp) in
      let k : length (sheet2_bits S) ≡ e = ap length w ∙ length-take-le e l (omega arith) in
      let j : length (drop e l) ≡ 8 * length s - length (sheet2_bits S) = omega arith in
      sym (take-append-drop e l) ∙ (ap (λ (x : List ℕ). x ++ drop e l) (sym w) ∙ ap (λ (x : List ℕ). sheet2_bits S ++ x) (y ∙ ap (λ (i : ℕ). replicate i 0) j))

  -- every field of it holds its number
  fit : FitSheet S
  fit = typed_fit s t.long t.few

  pub fit_p : FitAll particle_w S.particles
  fit_p = fit.particles

  pub fit_d : Fit blade_w S.blade
  fit_d = fit.blade

  -- its columns make it again
  back_sheet : sheet_from (columns_of S) ≡ S
  back_sheet =
      rw (
        length_col S.particles 0,
        length_col S.triangles 0,
        length_col S.edges 0,
        length_col S.boundary 0,
        rows_cols3 11 11 1 S.particles fit_p,
        rows_cols3 10 10 10 S.triangles fit.triangles,
        rows_cols3 10 10 1 S.edges fit.edges,
        rows_cols2 10 10 S.boundary fit.boundary,
      )

  back_counts : counts_in (columns_of S) ≡ d
  back_counts = rw (length_col S.particles 0, length_col S.triangles 0, length_col S.edges 0, length_col S.boundary 0) (typed_counts_lem d (bits_in_of l))

  short : ltb 2048 (length (own_of S)) ≡ false
  unfolding sheet_of typed_of outline_in
  short =
      let a = (seen_whole_tells lim s c f whole).few in
      let b : length (own_of S) ≤ 2048 = subst (λ (u : Bool). length (outline_in u S) ≤ 2048) two a in
      le-ltb 2048 (length (own_of S)) b

  -- they are accepted by the writer, with as many bytes as the sheet has
  back_answer : answer_of (columns_of S) (length s) ≡ 0
  unfolding answer_of
  back_answer =
      let k = columns_of S in
      let e : even_of k ≡ true = rw (even_col S.particles 0 1 2, even_col S.triangles 0 1 2, even_col S.edges 0 1 2, even_col S.boundary 0 1 1, eq-eqb (length S.blade) 4 (fit_length blade_w S.blade fit_d)) in
      let p : fit3 2048 2048 2 k.x k.y k.pinned ≡ true = fit_col 11 11 1 S.particles fit_p in
      let r : fit3 1024 1024 1024 k.t0 k.t1 k.t2 ≡ true = fit_col 10 10 10 S.triangles fit.triangles in
      let g : fit3 1024 1024 2 k.e0 k.e1 k.structural ≡ true = fit_col 10 10 1 S.edges fit.edges in
      let b : fit3 1024 1024 1024 k.b0 k.b1 k.b1 ≡ true = fit_col2 S.boundary fit.boundary in
      let q : all_below 2048 k.blade ≡ true = blade_below S.blade fit_d in
      let fits : fit_of k ≡ true = rw (p, r, g, b, q) in
      let few : too_many_of (counts_in k) ≡ false = ap too_many_of back_counts ∙ t.few in
      let names : names_ok (sheet_from k) ≡ true = ap names_ok back_sheet ∙ t.names in
      let own : ltb 2048 (length (own_of (sheet_from k))) ≡ false = ap (λ (x : Sheet). ltb 2048 (length (own_of x))) back_sheet ∙ short in
      let room : leb (bytes_in true (counts_in k)) (length s) ≡ true = ap (λ (x : Counts). leb (bytes_in true x) (length s)) back_counts ∙ le-leb (bytes_in true d) (length s) (omega (arith, length_is)) in
      rw (e, few, fits, names, own, room)

  -- so what a writer that is handed its fields leaves in as many bytes is the sheet itself
  pub read_then_write : (h : Handed) → columns_from h ≡ columns_of S → (before after : List ℕ) (r : ℕ) → length before ≡ length s → ((i : ℕ) → get_or s i 0 < 256) → ((i : ℕ) → get_or after i 0 < 256)
      → WriteDone h before after r → (r ≡ 0) × (after ≡ s)
  read_then_write h e before after r n hs ha w =
      let q : r ≡ 0 = w.answer ∙ (ap₂ answer_of e n ∙ back_answer) in
      let m : sheet_from (columns_from h) ≡ S = ap sheet_from e ∙ back_sheet in
      let b : bits_of after ≡ padded (8 * length before) 0 (put_of 0 S) = w.bits ∙ ap₂ (λ (i : ℕ) (x : Sheet). padded (8 * length before) 0 (put_of i x)) q m in
      let p : padded (8 * length before) 0 (put_of 0 S) ≡ padded (8 * length s) 0 (sheet2_bits S) = ap₂ (λ (i : ℕ) (x : List ℕ). padded (8 * i) 0 x) n (sym (put_some S)) in
      (q, bits_of_inj after s ha hs (b ∙ (p ∙ sym back_bits)))
