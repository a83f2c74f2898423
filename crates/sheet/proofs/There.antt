-- Columns that a writer accepts make a sheet whose fields hold every number; and laws of bits and limits that this needs.
use Prim.Native.Nat.{ℕ, zero, suc, ◌+◌, ◌*◌, ◌^◌, ◌<◌, ◌≤◌}
use mathlib.Core.Path.{◌≡◌, refl, sym, subst}
use mathlib.Core.List.{List, [], ◌∷◌}
use mathlib.Core.Bool.{true, false, ◌&&◌, ◌||◌}
use native.Mathlib.Omega.{arith}
use borrow.Author.Tests.{ltb-true, ltb-false}
use native.Mathlib.Nat.{zero-mul}
use lib.Dec.{ltb}
use lib.ListN.{length, take, get_or, replicate}
use lib.Seq.{take-nil, take-append-add}
use Rattle.lists.proofs.Sifts.{and_true}
use Rattle.bits.specs.Bits.{bits, bits_of, num}
use Rattle.bits.specs.Rows.{Fit, FitAll, rows_of}
use Rattle.sheet.specs.Sheet.{above, Columns, sheet_from, counts_in, counts_of, header_of, header_w, boundary_w, blade_w, FitSheet, all_below, fit3, too_many_of}
use Rattle.sheet.specs.declared.Counts.{Counts}
use Rattle.bits.proofs.Laws.{length_bits}
use Rattle.sheet.proofs.PutLaws.{Good, length_rows_of, neither}

pub below_at : (m : ℕ) (a : List ℕ) (i : ℕ) → all_below m a ≡ true → i < length a → get_or a i 0 < m
unfolding all_below
below_at m [] i e h = absurd (omega arith)
below_at m (x ∷ a) zero e h = ltb-true x m (and_true (ltb x m) (all_below m a) e).0
below_at m (x ∷ a) (suc i) e h = below_at m a i (and_true (ltb x m) (all_below m a) e).1 (omega arith)

fit_rows : (w0 w1 w2 : ℕ) (a b c : List ℕ) (i n : ℕ) → i + n ≤ length a → length b ≡ length a → length c ≡ length a
    → fit3 (2 ^ w0) (2 ^ w1) (2 ^ w2) a b c ≡ true → FitAll (w0 ∷ w1 ∷ w2 ∷ []) (rows_of (a ∷ b ∷ c ∷ []) i n)
unfolding FitAll Fit rows_of fit3
fit_rows w0 w1 w2 a b c i zero r p q e = tt
fit_rows w0 w1 w2 a b c i (suc n) r p q e =
    let w = and_true (all_below (2 ^ w0) a) (all_below (2 ^ w1) b && all_below (2 ^ w2) c) e in
    let v = and_true (all_below (2 ^ w1) b) (all_below (2 ^ w2) c) w.1 in (
      (below_at (2 ^ w0) a i w.0 (omega arith), (below_at (2 ^ w1) b i v.0 (omega arith), (below_at (2 ^ w2) c i v.1 (omega arith), tt))),
      fit_rows w0 w1 w2 a b c (i + 1) n (omega arith) p q e,
    )

fit_pairs : (a b : List ℕ) (i n : ℕ) → i + n ≤ length a → length b ≡ length a → fit3 1024 1024 1024 a b b ≡ true → FitAll boundary_w (rows_of (a ∷ b ∷ []) i n)
unfolding FitAll Fit rows_of fit3
fit_pairs a b i zero r p e = tt
fit_pairs a b i (suc n) r p e =
    let w = and_true (all_below 1024 a) (all_below 1024 b && all_below 1024 b) e in
    let v = and_true (all_below 1024 b) (all_below 1024 b) w.1 in
    ((below_at 1024 a i w.0 (omega arith), (below_at 1024 b i v.0 (omega arith), tt)), fit_pairs a b (i + 1) n (omega arith) p e)

fit_blade : (d : List ℕ) → length d ≡ 4 → all_below 2048 d ≡ true → Fit blade_w d
unfolding Fit
fit_blade [] h e = absurd (omega arith)
fit_blade (x ∷ []) h e = absurd (omega arith)
fit_blade (x ∷ y ∷ []) h e = absurd (omega arith)
fit_blade (x ∷ y ∷ z ∷ []) h e = absurd (omega arith)
fit_blade (x ∷ y ∷ z ∷ w ∷ []) h e =
    (below_at 2048 (x ∷ y ∷ z ∷ w ∷ []) 0 e (omega arith), (below_at 2048 (x ∷ y ∷ z ∷ w ∷ []) 1 e (omega arith), (below_at 2048 (x ∷ y ∷ z ∷ w ∷ []) 2 e (omega arith), (below_at 2048 (x ∷ y ∷ z ∷ w ∷ []) 3 e (omega arith), tt))))
fit_blade (x ∷ y ∷ z ∷ w ∷ v ∷ d) h e = absurd (omega arith)

pub limits : (c : Counts) → too_many_of c ≡ false → (c.particles ≤ 1024) × (c.triangles ≤ 1024) × (c.edges ≤ 2048) × (c.boundary ≤ 2048)
unfolding above
limits c e =
    let w1 = neither (ltb 1024 c.particles) (ltb 1024 c.triangles || (ltb 2048 c.edges || ltb 2048 c.boundary)) e in
    let w2 = neither (ltb 1024 c.triangles) (ltb 2048 c.edges || ltb 2048 c.boundary) w1.1 in
    let w3 = neither (ltb 2048 c.edges) (ltb 2048 c.boundary) w2.1 in
    (ltb-false _ _ w1.0, ltb-false _ _ w2.0, ltb-false _ _ w3.0, ltb-false _ _ w3.1)

pub fit_header : (c : Counts) → too_many_of c ≡ false → Fit header_w (header_of c)
unfolding Fit
fit_header c e = let l = limits c e in (omega arith, (omega arith, (omega arith, (omega arith, tt))))

module _ (k : Columns) where
  counts_from : counts_of (sheet_from k) ≡ counts_in k
  counts_from = rw (length_rows_of (k.x ∷ k.y ∷ k.pinned ∷ []) 0 (length k.x), length_rows_of (k.t0 ∷ k.t1 ∷ k.t2 ∷ []) 0 (length k.t0), length_rows_of (k.e0 ∷ k.e1 ∷ k.structural ∷ []) 0 (length k.e0), length_rows_of (k.b0 ∷ k.b1 ∷ []) 0 (length k.b0))

  module _ (m : ℕ) (g : Good k m) where
    pub fit_sheet : FitSheet (sheet_from k)
    fit_sheet =
        let w1 = and_true (fit3 2048 2048 2 k.x k.y k.pinned) (fit3 1024 1024 1024 k.t0 k.t1 k.t2 && (fit3 1024 1024 2 k.e0 k.e1 k.structural && (fit3 1024 1024 1024 k.b0 k.b1 k.b1 && all_below 2048 k.blade))) g.fit in
        let w2 = and_true (fit3 1024 1024 1024 k.t0 k.t1 k.t2) (fit3 1024 1024 2 k.e0 k.e1 k.structural && (fit3 1024 1024 1024 k.b0 k.b1 k.b1 && all_below 2048 k.blade)) w1.1 in
        let w3 = and_true (fit3 1024 1024 2 k.e0 k.e1 k.structural) (fit3 1024 1024 1024 k.b0 k.b1 k.b1 && all_below 2048 k.blade) w2.1 in
        let w4 = and_true (fit3 1024 1024 1024 k.b0 k.b1 k.b1) (all_below 2048 k.blade) w3.1 in
        let v = g.even in
        record {
          header = subst (λ (c : Counts). Fit header_w (header_of c)) (sym counts_from) (fit_header (counts_in k) g.few);
          particles = fit_rows 11 11 1 k.x k.y k.pinned 0 (length k.x) (omega arith) v.y v.pinned w1.0;
          triangles = fit_rows 10 10 10 k.t0 k.t1 k.t2 0 (length k.t0) (omega arith) v.t1 v.t2 w2.0;
          edges = fit_rows 10 10 1 k.e0 k.e1 k.structural 0 (length k.e0) (omega arith) v.e1 v.structural w3.0;
          boundary = fit_pairs k.b0 k.b1 0 (length k.b0) (omega arith) v.b1 w4.0;
          blade = fit_blade k.blade v.blade w4.1;
        }

pub bits_of_take : (n : ℕ) (s : List ℕ) → bits_of (take n s) ≡ take (8 * n) (bits_of s)
unfolding bits_of
bits_of_take zero s = refl
bits_of_take (suc n) [] = sym (take-nil (8 * suc n))
bits_of_take (suc n) (b ∷ s) =
    let e : 8 * suc n ≡ length (bits 8 b) + 8 * n = omega (arith, length_bits 8 b) in
    rw (e, take-append-add (bits 8 b) (bits_of s) (8 * n), bits_of_take n s)

pub num_zeros : (n : ℕ) → num (replicate n 0) ≡ 0
unfolding num
num_zeros zero = refl
num_zeros (suc n) = rw (num_zeros n, zero-mul)
