-- Laws of the columns that a writer of sheets is handed, and of bits that are stored one part after the other.
use Prim.Native.Nat.{ℕ, zero, suc, ◌+◌, ◌-◌, ◌<◌, ◌≤◌}
use mathlib.Core.Path.{◌≡◌, refl, ap, ◌∙◌}
use mathlib.Core.List.{List, [], ◌∷◌}
use mathlib.Core.Bool.{Bool, true, false, cond, ◌&&◌, ◌||◌}
use native.Mathlib.Omega.{arith}
use native.Mathlib.Nat.{sub-zero}
use borrow.Author.Tests.{eqb-true, leb-true, ltb-false, lt-leb, le-leb}
use lib.Dec.{leb, ltb}
use lib.ListN.{length, drop, get_or, replicate, length-replicate}
use lib.Seq.{sets, sets-eq}
use Rattle.lists.proofs.Sifts.{and_true}
use Rattle.bits.specs.Rows.{pack, rows_of}
use Rattle.lists.specs.Lists.{padded}
use Rattle.sheet.specs.Sheet.{above, Columns, sheet_from, counts_in, blade_w, even3, even_of, all_ok, row_ok, too_many_of, fit_of, names_ok, answer_of, bytes_of}
use Rattle.sheet.specs.Work.{Even, Small}
use Rattle.sheet.specs.declared.Counts.{Counts}

pub length_rows_of : (cols : List (List ℕ)) (i n : ℕ) → length (rows_of cols i n) ≡ n
unfolding rows_of
length_rows_of cols i zero = refl
length_rows_of cols i (suc n) = ap suc (length_rows_of cols (i + 1) n)

-- rows of two names are right with a third that is not looked at
pub pair_names : (p : ℕ) (a b : List ℕ) (i n : ℕ) → all_ok false p (rows_of (a ∷ b ∷ b ∷ []) i n) ≡ all_ok false p (rows_of (a ∷ b ∷ []) i n)
unfolding rows_of all_ok row_ok
pair_names p a b i zero = refl
pair_names p a b i (suc n) = rw (pair_names p a b (i + 1) n)

pub pack_blade : (d : List ℕ) → pack blade_w (get_or d 0 0 ∷ get_or d 1 0 ∷ get_or d 2 0 ∷ get_or d 3 0 ∷ []) ≡ pack blade_w d
unfolding pack
pack_blade [] = refl
pack_blade (a ∷ []) = refl
pack_blade (a ∷ b ∷ []) = refl
pack_blade (a ∷ b ∷ c ∷ []) = refl
pack_blade (a ∷ b ∷ c ∷ e ∷ r) = refl

pub drop_zeros : (n m : ℕ) → drop n (replicate {A = ℕ} m 0) ≡ replicate (m - n) 0
drop_zeros zero m = rw sub-zero
drop_zeros (suc n) zero = let e : zero - suc n ≡ zero = omega arith in rw e
drop_zeros (suc n) (suc m) = let e : suc m - suc n ≡ m - n = omega arith in rw e (drop_zeros n m)

-- stores from the front on zeros
pub sets_zeros : (m : ℕ) (x : List ℕ) → length x ≤ m → sets (replicate m 0) 0 x ≡ padded m 0 x
unfolding padded
sets_zeros m x h =
    let e : 0 + length x ≡ length x = omega arith in
    sets-eq x (replicate m 0) 0 (omega (arith, length-replicate {A = ℕ} m 0)) ∙ rw (e, drop_zeros (length x) m)

even_three : (a b c : List ℕ) → even3 a b c ≡ true → (length b ≡ length a) × (length c ≡ length a)
unfolding even3
even_three a b c e = let w = and_true _ _ e in (eqb-true _ _ w.0, eqb-true _ _ w.1)

pub even_from : (k : Columns) → even_of k ≡ true → Even k
even_from k e =
    let w1 = and_true _ _ e in
    let w2 = and_true _ _ w1.1 in
    let w3 = and_true _ _ w2.1 in
    let w4 = and_true _ _ w3.1 in
    let p = even_three k.x k.y k.pinned w1.0 in
    let t = even_three k.t0 k.t1 k.t2 w2.0 in
    let g = even_three k.e0 k.e1 k.structural w3.0 in
    let b = even_three k.b0 k.b1 k.b1 w4.0 in
    record { y = p.0; pinned = p.1; t1 = t.0; t2 = t.1; e1 = g.0; structural = g.1; b1 = b.0; blade = eqb-true _ _ w4.1 }

pub neither : (a b : Bool) → (a || b) ≡ false → (a ≡ false) × (b ≡ false)
neither true b e = absurd (let z : ◌≡◌ {A = ℕ} 0 1 = cc in omega arith)
neither false b e = (refl, e)

pub not_many : (c : Counts) → too_many_of c ≡ false → Small c
unfolding above
not_many c e =
    let w1 = neither (ltb 1024 c.particles) (ltb 1024 c.triangles || (ltb 2048 c.edges || ltb 2048 c.boundary)) e in
    let w2 = neither (ltb 1024 c.triangles) (ltb 2048 c.edges || ltb 2048 c.boundary) w1.1 in
    let w3 = neither (ltb 2048 c.edges) (ltb 2048 c.boundary) w2.1 in
    let p : c.particles ≤ 1024 = ltb-false _ _ w1.0 in
    let t : c.triangles ≤ 1024 = ltb-false _ _ w2.0 in
    let g : c.edges ≤ 2048 = ltb-false _ _ w3.0 in
    let b : c.boundary ≤ 2048 = ltb-false _ _ w3.1 in
    record { particles = omega arith; triangles = omega arith; edges = omega arith; boundary = omega arith }

pub accepted : (a b c d e : Bool) → ◌≡◌ {A = ℕ} (cond a (cond b 1 (cond c (cond d (cond e 0 9) 3) 2)) 1) 0 → (a ≡ true) × (b ≡ false) × (c ≡ true) × (d ≡ true) × (e ≡ true)
accepted false b c d e h = absurd (omega arith)
accepted true true c d e h = absurd (omega arith)
accepted true false false d e h = absurd (omega arith)
accepted true false true false e h = absurd (omega arith)
accepted true false true true false h = absurd (omega arith)
accepted true false true true true h = (refl, refl, refl, refl, refl)

-- a sheet that is accepted: what put_all asks, and that every field holds its number
pub record Good (k : Columns) (m : ℕ) : Type 0 where
  pub even : Even k
  pub counts : Small (counts_in k)
  pub few : too_many_of (counts_in k) ≡ false
  pub fit : fit_of k ≡ true
  pub names : names_ok (sheet_from k) ≡ true
  pub room : bytes_of (counts_in k) ≤ m

pub good : (k : Columns) (m : ℕ) → answer_of k m ≡ 0 → Good k m
unfolding answer_of
good k m h =
    let w = accepted (even_of k) (too_many_of (counts_in k)) (fit_of k) (names_ok (sheet_from k)) (leb (bytes_of (counts_in k)) m) h in
    record { even = even_from k w.0; counts = not_many (counts_in k) w.1; few = w.1; fit = w.2; names = w.3; room = leb-true _ _ w.4 }

module _ (k : Columns) (m : ℕ) where
  pub answer_uneven : even_of k ≡ false → answer_of k m ≡ 1
  unfolding answer_of
  answer_uneven a = rw a

  module _ (a : even_of k ≡ true) where
    pub answer_many : too_many_of (counts_in k) ≡ true → answer_of k m ≡ 1
    unfolding answer_of
    answer_many b = rw (a, b)

    module _ (b : too_many_of (counts_in k) ≡ false) where
      pub answer_wide : fit_of k ≡ false → answer_of k m ≡ 2
      unfolding answer_of
      answer_wide c = rw (a, b, c)

      module _ (c : fit_of k ≡ true) where
        pub answer_names : names_ok (sheet_from k) ≡ false → answer_of k m ≡ 3
        unfolding answer_of
        answer_names d = rw (a, b, c, d)

        module _ (d : names_ok (sheet_from k) ≡ true) where
          pub answer_long : m < bytes_of (counts_in k) → answer_of k m ≡ 9
          unfolding answer_of
          answer_long h = rw (a, b, c, d, lt-leb (bytes_of (counts_in k)) m h)

          pub answer_good : bytes_of (counts_in k) ≤ m → answer_of k m ≡ 0
          unfolding answer_of
          answer_good h = rw (a, b, c, d, le-leb (bytes_of (counts_in k)) m h)

pub names_cols : (k : Columns) → names_ok (sheet_from k) ≡ (all_ok true (length k.x) (rows_of (k.t0 ∷ k.t1 ∷ k.t2 ∷ []) 0 (length k.t0))
    && (all_ok false (length k.x) (rows_of (k.e0 ∷ k.e1 ∷ k.structural ∷ []) 0 (length k.e0)) && all_ok false (length k.x) (rows_of (k.b0 ∷ k.b1 ∷ k.b1 ∷ []) 0 (length k.b0))))
names_cols k = rw (length_rows_of (k.x ∷ k.y ∷ k.pinned ∷ []) 0 (length k.x), pair_names (length k.x) k.b0 k.b1 0 (length k.b0))
