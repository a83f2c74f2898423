-- One row over the first k columns: what each turn of a loop over the columns finds in it, or puts into it.
use Prim.Native.Nat.{ℕ, zero, suc, ◌+◌, ◌*◌, ◌-◌, ◌≤◌, ◌<◌, zero-le}
use native.Mathlib.Nat.{zero-mul, not-suc-le-zero}
use native.Mathlib.Omega.{arith}
use native.Mathlib.Decide.{ℕ_discrete}
use borrow.Author.Tests.{eq-eqb, ne_eqb}
use mathlib.Core.Path.{◌≡◌, refl, sym, ap, ap₂, ◌∙◌}
use mathlib.Core.Bool.{Bool, true, false}
use mathlib.Core.List.{List, [], ◌∷◌, map}
use lib.Dec.{eqb}
use lib.ListN.{length, get_or, set, length-set}
use Rattle.lists.specs.Lists.{pick, stands}
use Rattle.lists.specs.Labels.{replaced}
use Rattle.columns.specs.Block.{cell, row_from, row_at, RowIn, RowTurned}
use Rattle.columns.proofs.Cells.{next_col, col_fits, store_same, store_row, store_col, col_0, col_1}

-- ---- a row of two columns, and of three, as a program reads its places

module _ (R : ℕ) (s : List ℕ) (i : ℕ) where
  pub row_two : get_or s i 0 ∷ get_or s (R + i) 0 ∷ [] ≡ row_at 2 R s i
  row_two = ap₂ (λ (a b : ℕ). a ∷ b ∷ []) (sym (col_0 0 R s i)) (sym (col_1 0 R s i))

  pub row_three : get_or s i 0 ∷ get_or s (R + i) 0 ∷ get_or s (2 * R + i) 0 ∷ [] ≡ row_at 3 R s i
  unfolding cell
  row_three = ap₂ (λ (a b : ℕ). a ∷ b ∷ get_or s (2 * R + i) 0 ∷ []) (sym (col_0 0 R s i)) (sym (col_1 0 R s i))

-- ---- a row turned

-- column c comes next, and begins at o: the columns before it have w for v in row i, and the others are as they were
pub record Turning (k R i v w : ℕ) (s₀ s : List ℕ) (c o : ℕ) : Type 0 where
  pub at : o ≡ c * R
  pub below : c ≤ k
  pub long : length s ≡ length s₀
  pub new : (j : ℕ) → j < c → cell 0 R s j i ≡ replaced v w (cell 0 R s₀ j i)
  pub left : (j m : ℕ) → c ≤ j → m < R → cell 0 R s j m ≡ cell 0 R s₀ j m
  pub old : (j m : ℕ) → m < R → (m ≡ i → ⊥) → cell 0 R s j m ≡ cell 0 R s₀ j m

module _ (k R i v w : ℕ) where
  pub turn_start : (s : List ℕ) → Turning k R i v w s s 0 0
  turn_start s = record { at = sym (zero-mul R); below = zero-le; long = refl; new = λ j h. absurd (not-suc-le-zero h); left = λ j m h g. refl; old = λ j m h n. refl }

  module _ (s₀ s : List ℕ) (c o : ℕ) (r : Turning k R i v w s₀ s c o) (h : c < k) (I : RowIn k R i (length s₀)) where
    pub turn_fits : o + R ≤ length s
    turn_fits = omega (arith, col_fits c k R h, r.at, r.long, I.columns)

    here : cell 0 R s c i ≡ get_or s (o + i) 0
    unfolding cell
    here = ap (λ (x : ℕ). get_or s (x + i) 0) (sym r.at)

    was : cell 0 R s₀ c i ≡ get_or s (o + i) 0
    was = sym (r.left c i (omega arith) I.here) ∙ here

    -- the place holds v
    pub turn_stored : get_or s (o + i) 0 ≡ v → Turning k R i v w s₀ (set s (o + i) w) (c + 1) (o + R)
    turn_stored e =
        rw r.at
        (record {
          at = sym (next_col c R);
          below = omega arith;
          long = length-set s (c * R + i) w ∙ r.long;
          new = λ j hj. by j hj (ℕ_discrete j c);
          left = λ j m hj hm. store_col 0 R s c i w j m hm I.here (λ q. omega arith) ∙ r.left j m (omega arith) hm;
          old = λ j m hm ne. store_row 0 R s c i w j m hm I.here ne ∙ r.old j m hm ne;
        })
      where
        inside : c * R + i < length s
        inside = omega (arith, turn_fits, r.at, I.here)

        by : (j : ℕ) → j < c + 1 → Dec (j ≡ c) → cell 0 R (set s (c * R + i) w) j i ≡ replaced v w (cell 0 R s₀ j i)
        by j hj (yes q) = rw q (store_same 0 R s c i w inside ∙ sym (ap (λ (b : Bool). pick b w (cell 0 R s₀ c i)) (eq-eqb (cell 0 R s₀ c i) v (was ∙ e))))
        by j hj (no q) = store_col 0 R s c i w j i I.here I.here q ∙ r.new j (omega (arith, q))

    -- it does not
    pub turn_left : (get_or s (o + i) 0 ≡ v → ⊥) → Turning k R i v w s₀ s (c + 1) (o + R)
    turn_left n =
        record {
          at = ap (λ (x : ℕ). x + R) r.at ∙ sym (next_col c R);
          below = omega arith;
          long = r.long;
          new = λ j hj. by j hj (ℕ_discrete j c);
          left = λ j m hj hm. r.left j m (omega arith) hm;
          old = r.old;
        }
      where
        by : (j : ℕ) → j < c + 1 → Dec (j ≡ c) → cell 0 R s j i ≡ replaced v w (cell 0 R s₀ j i)
        by j hj (yes q) = rw q (r.left c i (omega arith) I.here ∙ sym (ap (λ (b : Bool). pick b w (cell 0 R s₀ c i)) (ne_eqb (cell 0 R s₀ c i) v (λ e. n (sym was ∙ e)))))
        by j hj (no q) = r.new j (omega (arith, q))

  pub turn_done : (s₀ s : List ℕ) (c o : ℕ) → Turning k R i v w s₀ s c o → k ≤ c → RowTurned k R i v w s₀ s
  turn_done s₀ s c o r h =
      record {
        here = λ j hj. r.new j (omega arith);
        beside = λ j m hj hm. r.left j m (let e : c ≤ k = r.below in omega arith) hm;
        others = r.old;
      }

-- ---- does a row hold v

-- column c comes next, and begins at o: the columns from it on decide
pub record Looking (k R i v : ℕ) (s : List ℕ) (c o : ℕ) : Type 0 where
  pub at : o ≡ c * R
  pub below : c ≤ k
  pub rest : stands v (row_at k R s i) ≡ stands v (row_from (k - c) c R s i)

module _ (k R i v : ℕ) (s : List ℕ) (I : RowIn k R i (length s)) where
  pub look_start : Looking k R i v s 0 0
  look_start = let e : k ≡ k - 0 = omega arith in record { at = sym (zero-mul R); below = zero-le; rest = ap (λ (m : ℕ). stands v (row_from m 0 R s i)) e }

  module _ (c o : ℕ) (r : Looking k R i v s c o) (h : c < k) where
    pub look_fits : o + R ≤ length s
    look_fits = omega (arith, col_fits c k R h, r.at, I.columns)

    read : cell 0 R s c i ≡ get_or s (o + i) 0
    unfolding cell
    read = ap (λ (x : ℕ). get_or s (x + i) 0) (sym r.at)

    -- column c decides, or those behind it do
    next : stands v (row_at k R s i) ≡ pick (eqb (cell 0 R s c i) v) true (stands v (row_from (k - (c + 1)) (c + 1) R s i))
    next =
        let e : k - c ≡ suc (k - (c + 1)) = omega arith in
        let f : suc c ≡ c + 1 = omega arith in
        r.rest ∙ ap (λ (m : ℕ). stands v (row_from m c R s i)) e ∙ ap (λ (d : ℕ). pick (eqb (cell 0 R s c i) v) true (stands v (row_from (k - (c + 1)) d R s i))) f

    pub look_found : get_or s (o + i) 0 ≡ v → true ≡ stands v (row_at k R s i)
    look_found e = sym (next ∙ ap (λ (b : Bool). pick b true (stands v (row_from (k - (c + 1)) (c + 1) R s i))) (eq-eqb (cell 0 R s c i) v (read ∙ e)))

    pub look_more : (get_or s (o + i) 0 ≡ v → ⊥) → Looking k R i v s (c + 1) (o + R)
    look_more n =
        record {
          at = ap (λ (x : ℕ). x + R) r.at ∙ sym (next_col c R);
          below = omega arith;
          rest = next ∙ ap (λ (b : Bool). pick b true (stands v (row_from (k - (c + 1)) (c + 1) R s i))) (ne_eqb (cell 0 R s c i) v (λ e. n (sym read ∙ e)));
        }

  pub look_end : (c o : ℕ) → Looking k R i v s c o → k ≤ c → false ≡ stands v (row_at k R s i)
  look_end c o r h =
      let e : k - c ≡ 0 = omega arith in
      sym (r.rest ∙ ap (λ (m : ℕ). stands v (row_from m c R s i)) e)

-- ---- a row that was turned, as a list

module _ (R i : ℕ) (g : ℕ → ℕ) (s s' : List ℕ) where
  -- a row is what g made of it, where it is so in each of its columns
  row_map : (k c : ℕ) → ((d : ℕ) → d < c + k → cell 0 R s' d i ≡ g (cell 0 R s d i)) → row_from k c R s' i ≡ map g (row_from k c R s i)
  row_map zero c h = refl
  row_map (suc k) c h = ap₂ ◌∷◌ (h c (omega arith)) (row_map k (suc c) (λ d l. h d (omega arith)))

-- rows that have the same in each column are the same
row_same : (R j : ℕ) (s s' : List ℕ) (k c : ℕ) → ((d : ℕ) → d < c + k → cell 0 R s' d j ≡ cell 0 R s d j) → row_from k c R s' j ≡ row_from k c R s j
row_same R j s s' zero c h = refl
row_same R j s s' (suc k) c h = ap₂ ◌∷◌ (h c (omega arith)) (row_same R j s s' k (suc c) (λ d l. h d (omega arith)))

module _ {k R i v w : ℕ} {s s' : List ℕ} (T : RowTurned k R i v w s s') where
  -- row i has w for v
  pub row_turned : row_at k R s' i ≡ map (replaced v w) (row_at k R s i)
  row_turned = row_map R i (replaced v w) s s' k 0 (λ d l. T.here d (omega arith))

  -- another row is as it was
  pub row_unturned : (j : ℕ) → j < R → (j ≡ i → ⊥) → row_at k R s' j ≡ row_at k R s j
  row_unturned j h ne = row_same R j s s' k 0 (λ d l. T.others d j h ne)
