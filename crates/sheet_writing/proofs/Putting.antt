-- Laws of a sheet written in the second edition, part by part, and of what a writer answers. Assumes nothing.
use Prim.Native.Nat.{ℕ, zero, suc, ◌+◌, ◌-◌, ◌*◌, ◌≤◌}
use mathlib.Core.Path.{◌≡◌, refl, sym, ap, ap₂, ◌∙◌}
use mathlib.Core.Bool.{Bool, true, false, cond}
use mathlib.Core.List.{List, [], ◌∷◌, ◌++◌}
use native.Mathlib.Omega.{arith}
use borrow.Author.Tests.{le-leb, leb-true}
use lib.Dec.{ltb, leb}
use lib.ListN.{length, replicate, length-append}
use lib.Seq.{sets}
use Rattle.lists.specs.Lists.{tab, padded}
use Rattle.columns.proofs.Rows.{tab_ext}
use Rattle.bits.specs.Bits.{bits}
use Rattle.bits.specs.Rows.{total, pack, write_rows, rows_of}
use Rattle.bits.proofs.RowLaws.{sets_then, length_pack, length_write_rows}
use Rattle.outline.specs.Outline.{outline_of}
use Rattle.outline_tables.specs.Rows.{rows3, row3}
use Rattle.sheet.specs.Sheet.{Sheet, Columns, sheet_from, counts_in, particle_w, triangle_w, edge_w, blade_w, end_of, bytes_of, even_of, too_many_of, fit_of, names_ok}
use Rattle.sheet.specs.Sheet as S
use Rattle.sheet.specs.Work.{Even, Small}
use Rattle.sheet.proofs.PutLaws.{length_rows_of, sets_zeros, even_from, not_many, accepted}
use Rattle.sheet.proofs.There.{limits}
use Rattle.edition.proofs.Editions.{header_parts, length_second}
use Rattle.edition.specs.Edition.{header2_w, sheet2_bits, own_of, bytes_in}
use Rattle.sheet_writing.specs.Writing.{answer_of, put_of}

-- ---- rows from columns, in both forms

rows_from : (a b c : List ℕ) (i n : ℕ) → tab n (λ (k : ℕ). row3 a b c (i + k)) ≡ rows_of (a ∷ b ∷ c ∷ []) i n
unfolding tab rows_of
rows_from a b c i zero = refl
rows_from a b c i (suc n) =
    let e : i + 0 ≡ i = omega arith in
    let t : tab n (λ (k : ℕ). row3 a b c (i + suc k)) ≡ tab n (λ (k : ℕ). row3 a b c (i + 1 + k)) = tab_ext n _ _ (λ k h. let f : i + suc k ≡ i + 1 + k = omega arith in ap (row3 a b c) f) in
    ap₂ (λ (x : List ℕ) (y : List (List ℕ)). x ∷ y) (ap (row3 a b c) e) (t ∙ rows_from a b c (i + 1) n)

pub rows_same : (a b c : List ℕ) → rows3 a b c ≡ rows_of (a ∷ b ∷ c ∷ []) 0 (length a)
unfolding rows3
rows_same a b c = tab_ext (length a) _ _ (λ k h. let f : k ≡ 0 + k = omega arith in ap (row3 a b c) f) ∙ rows_from a b c 0 (length a)

-- the own outline of the sheet that columns are
pub own_columns : (k : Columns) → outline_of (rows3 k.t0 k.t1 k.t2) (rows3 k.e0 k.e1 k.structural) ≡ own_of (sheet_from k)
own_columns k = ap₂ outline_of (rows_same k.t0 k.t1 k.t2) (rows_same k.e0 k.e1 k.structural)

-- ---- the parts one after the other

module _ (k : Columns) where
  abbrev rp : List (List ℕ)
  rp = rows_of (k.x ∷ k.y ∷ k.pinned ∷ []) 0 (length k.x)

  abbrev rt : List (List ℕ)
  rt = rows_of (k.t0 ∷ k.t1 ∷ k.t2 ∷ []) 0 (length k.t0)

  abbrev re : List (List ℕ)
  re = rows_of (k.e0 ∷ k.e1 ∷ k.structural ∷ []) 0 (length k.e0)

  pub put_second : (l : List ℕ) (n : ℕ) → length k.x ≡ n →
      sets (sets (sets (sets (sets (sets l 0 (pack (11 ∷ 11 ∷ 11 ∷ []) (2047 ∷ n ∷ length k.t0 ∷ []))) 33 (bits 12 (length k.e0))) 45 (write_rows particle_w rp))
      (45 + n * 23) (write_rows triangle_w rt)) (45 + n * 23 + length k.t0 * 30) (write_rows edge_w re)) (45 + n * 23 + length k.t0 * 30 + length k.e0 * 21) (pack blade_w k.blade)
      ≡ sets l 0 (sheet2_bits (sheet_from k))
  unfolding sheet2_bits total
  put_second l n x =
      let A = pack (11 ∷ 11 ∷ 11 ∷ []) (2047 ∷ n ∷ length k.t0 ∷ []) in
      let Z = bits 12 (length k.e0) in
      let H = pack header2_w (2047 ∷ n ∷ length k.t0 ∷ length k.e0 ∷ []) in
      let np : length rp ≡ length k.x = length_rows_of (k.x ∷ k.y ∷ k.pinned ∷ []) 0 (length k.x) in
      let nt : length rt ≡ length k.t0 = length_rows_of (k.t0 ∷ k.t1 ∷ k.t2 ∷ []) 0 (length k.t0) in
      let ne : length re ≡ length k.e0 = length_rows_of (k.e0 ∷ k.e1 ∷ k.structural ∷ []) 0 (length k.e0) in
      let P = write_rows particle_w rp in
      let T = write_rows triangle_w rt in
      let E = write_rows edge_w re in
      let D = pack blade_w k.blade in
      let a : length A ≡ 33 = length_pack (11 ∷ 11 ∷ 11 ∷ []) (2047 ∷ n ∷ length k.t0 ∷ []) in
      let h : length H ≡ 45 = length_pack header2_w (2047 ∷ n ∷ length k.t0 ∷ length k.e0 ∷ []) in
      let p : length P ≡ length rp * 23 = length_write_rows particle_w rp in
      let t : length T ≡ length rt * 30 = length_write_rows triangle_w rt in
      let e : length E ≡ length re * 21 = length_write_rows edge_w re in
      let hp : length (H ++ P) ≡ 45 + n * 23 = omega (arith, length-append H P) in
      let ht : length (H ++ P ++ T) ≡ 45 + n * 23 + length k.t0 * 30 = omega (arith, length-append (H ++ P) T) in
      let he : length (H ++ P ++ T ++ E) ≡ 45 + n * 23 + length k.t0 * 30 + length k.e0 * 21 = omega (arith, length-append (H ++ P ++ T) E) in
      let m : H ++ P ++ T ++ E ++ D ≡ pack header2_w (2047 ∷ length rp ∷ length rt ∷ length re ∷ []) ++ P ++ T ++ E ++ D =
      ap (λ (j : ℕ). pack header2_w (2047 ∷ j ∷ length k.t0 ∷ length k.e0 ∷ []) ++ P ++ T ++ E ++ D) (sym (np ∙ x))
      ∙ ap₂ (λ (i j : ℕ). pack header2_w (2047 ∷ length rp ∷ i ∷ j ∷ []) ++ P ++ T ++ E ++ D) (sym nt) (sym ne) in
      rw (
        sets_then l 0 33 A Z (omega arith),
        header_parts n (length k.t0) (length k.e0),
        sets_then l 0 45 H P (omega arith),
        sets_then l 0 (45 + n * 23) (H ++ P) T (omega arith),
        sets_then l 0 (45 + n * 23 + length k.t0 * 30) (H ++ P ++ T) E (omega arith),
        sets_then l 0 (45 + n * 23 + length k.t0 * 30 + length k.e0 * 21) (H ++ P ++ T ++ E) D (omega arith),
      ) (ap (sets l 0) m)

  -- on zeros
  pub put_zeros : (m : ℕ) → end_of (counts_in k) ≤ m + 1 → sets (replicate m 0) 0 (sheet2_bits (sheet_from k)) ≡ padded m 0 (sheet2_bits (sheet_from k))
  put_zeros m h =
      let np = length_rows_of (k.x ∷ k.y ∷ k.pinned ∷ []) 0 (length k.x) in
      let nt = length_rows_of (k.t0 ∷ k.t1 ∷ k.t2 ∷ []) 0 (length k.t0) in
      let ne = length_rows_of (k.e0 ∷ k.e1 ∷ k.structural ∷ []) 0 (length k.e0) in
      sets_zeros m (sheet2_bits (sheet_from k)) (omega (arith, length_second (sheet_from k)))

-- ---- what is answered

-- the first edition's refusals with bytes enough: a bad one is told, a good one goes on
early : (a b c d e : Bool) (z r : ℕ) → (b ≡ false → e ≡ true) → ◌≡◌ {A = ℕ} (cond a (cond b 1 (cond c (cond d (cond e 0 9) 3) 2)) 1) r → (r ≡ 0 → ⊥) → ◌≡◌ {A = ℕ} (cond a (cond b 1 (cond c (cond d z 3) 2)) 1) r
early false b c d e z r f h n = h
early true true c d e z r f h n = h
early true false false d e z r f h n = h
early true false true false e z r f h n = h
early true false true true true z r f h n = absurd (n (sym h))
early true false true true false z r f h n = let q : ◌≡◌ {A = Bool} false true = f refl in absurd (let w : ◌≡◌ {A = ℕ} 0 1 = cc in omega arith)

module _ (k : Columns) (m : ℕ) where
  enough : too_many_of (counts_in k) ≡ false → leb (bytes_of (counts_in k)) 65536 ≡ true
  enough f = let l = limits (counts_in k) f in le-leb (bytes_of (counts_in k)) 65536 (omega arith)

  pub refused_early : (r : ℕ) → r ≡ S.answer_of k 65536 → (r ≡ 0 → ⊥) → r ≡ answer_of k m
  unfolding answer_of S.answer_of
  refused_early r e n = sym (early (even_of k) (too_many_of (counts_in k)) (fit_of k) (names_ok (sheet_from k)) (leb (bytes_of (counts_in k)) 65536) _ r enough (sym e) n)

  module _ (e : 0 ≡ S.answer_of k 65536) where
    passed : (even_of k ≡ true) × (too_many_of (counts_in k) ≡ false) × (fit_of k ≡ true) × (names_ok (sheet_from k) ≡ true) × (leb (bytes_of (counts_in k)) 65536 ≡ true)
    unfolding S.answer_of
    passed = accepted (even_of k) (too_many_of (counts_in k)) (fit_of k) (names_ok (sheet_from k)) (leb (bytes_of (counts_in k)) 65536) (sym e)

    pub refused_long : ltb 2048 (length (own_of (sheet_from k))) ≡ true → 1 ≡ answer_of k m
    unfolding answer_of
    refused_long h = let w = passed in rw (w.0, w.1, w.2, w.3, h)

    pub late : ltb 2048 (length (own_of (sheet_from k))) ≡ false → (b : Bool) → leb (bytes_in true (counts_in k)) m ≡ b → cond b 0 9 ≡ answer_of k m
    unfolding answer_of
    late h b q = let w = passed in rw (w.0, w.1, w.2, w.3, h, q)

-- ---- what was accepted, and what is left

accepted6 : (a b c d l e : Bool) → ◌≡◌ {A = ℕ} (cond a (cond b 1 (cond c (cond d (cond l 1 (cond e 0 9)) 3) 2)) 1) 0 → (a ≡ true) × (b ≡ false) × (c ≡ true) × (d ≡ true) × (l ≡ false) × (e ≡ true)
accepted6 false b c d l e h = absurd (omega arith)
accepted6 true true c d l e h = absurd (omega arith)
accepted6 true false false d l e h = absurd (omega arith)
accepted6 true false true false l e h = absurd (omega arith)
accepted6 true false true true true e h = absurd (omega arith)
accepted6 true false true true false false h = absurd (omega arith)
accepted6 true false true true false true h = (refl, refl, refl, refl, refl, refl)

-- columns that are accepted
pub record Good (k : Columns) (m : ℕ) : Type 0 where
  pub even : Even k
  pub counts : Small (counts_in k)
  pub few : too_many_of (counts_in k) ≡ false
  pub fit : fit_of k ≡ true
  pub names : names_ok (sheet_from k) ≡ true
  pub short : ltb 2048 (length (own_of (sheet_from k))) ≡ false
  pub room : bytes_in true (counts_in k) ≤ m

pub good : (k : Columns) (m : ℕ) → answer_of k m ≡ 0 → Good k m
unfolding answer_of
good k m h =
    let w = accepted6 (even_of k) (too_many_of (counts_in k)) (fit_of k) (names_ok (sheet_from k)) (ltb 2048 (length (own_of (sheet_from k)))) (leb (bytes_in true (counts_in k)) m) h in
    record { even = even_from k w.0; counts = not_many (counts_in k) w.1; few = w.1; fit = w.2; names = w.3; short = w.4; room = leb-true _ _ w.5 }

-- the parts were put into zeros
pub put_done :
    (k : Columns) (n m : ℕ) (b0 b1 b2 b3 b4 b5 b6 : List ℕ) → length k.x ≡ n → end_of (counts_in k) ≤ m + 1 → b0 ≡ replicate m 0
    → b1 ≡ sets b0 0 (pack (11 ∷ 11 ∷ 11 ∷ []) (2047 ∷ n ∷ length k.t0 ∷ [])) → b2 ≡ sets b1 33 (bits 12 (length k.e0)) → b3 ≡ sets b2 45 (write_rows particle_w (rows_of (k.x ∷ k.y ∷ k.pinned ∷ []) 0 (length k.x)))
    → b4 ≡ sets b3 (45 + n * 23) (write_rows triangle_w (rows_of (k.t0 ∷ k.t1 ∷ k.t2 ∷ []) 0 (length k.t0)))
    → b5 ≡ sets b4 (45 + n * 23 + length k.t0 * 30) (write_rows edge_w (rows_of (k.e0 ∷ k.e1 ∷ k.structural ∷ []) 0 (length k.e0)))
    → b6 ≡ sets b5 (45 + n * 23 + length k.t0 * 30 + length k.e0 * 21) (pack blade_w k.blade) → b6 ≡ padded m 0 (sheet2_bits (sheet_from k))
put_done k n m b0 b1 b2 b3 b4 b5 b6 x h e0 e1 e2 e3 e4 e5 e6 =
    e6 ∙ (ap (λ (b : List ℕ). sets b (45 + n * 23 + length k.t0 * 30 + length k.e0 * 21) (pack blade_w k.blade))
    (e5 ∙ ap (λ (b : List ℕ). sets b (45 + n * 23 + length k.t0 * 30) (write_rows edge_w (rows_of (k.e0 ∷ k.e1 ∷ k.structural ∷ []) 0 (length k.e0))))
    (e4 ∙ ap (λ (b : List ℕ). sets b (45 + n * 23) (write_rows triangle_w (rows_of (k.t0 ∷ k.t1 ∷ k.t2 ∷ []) 0 (length k.t0))))
    (e3 ∙ ap (λ (b : List ℕ). sets b 45 (write_rows particle_w (rows_of (k.x ∷ k.y ∷ k.pinned ∷ []) 0 (length k.x))))
    (e2 ∙ ap (λ (b : List ℕ). sets b 33 (bits 12 (length k.e0)))
    (e1 ∙ ap (λ (b : List ℕ). sets b 0 (pack (11 ∷ 11 ∷ 11 ∷ []) (2047 ∷ n ∷ length k.t0 ∷ []))) e0)))))
    ∙ (put_second k (replicate m 0) n x ∙ put_zeros k m h))

-- what a refusal leaves, and what is left else
pub put_none : (r : ℕ) (s : Sheet) (m : ℕ) → (r ≡ 0 → ⊥) → replicate m 0 ≡ padded m 0 (put_of r s)
unfolding put_of padded
put_none zero s m h = absurd (h refl)
put_none (suc r) s m h = let e : m - zero ≡ m = omega arith in rw e

pub put_some : (s : Sheet) → sheet2_bits s ≡ put_of 0 s
unfolding put_of
put_some s = refl
