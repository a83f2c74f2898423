-- Loops over the columns of a block, over any type of element: what holds at the head, that a turn keeps it, and what is there at the end.
use Prim.Native.Nat.{ℕ, suc, ◌+◌, ◌*◌, ◌-◌, ◌≤◌, ◌<◌, zero-le, suc-le-suc}
use native.Mathlib.Nat.{zero-mul, not-suc-le-zero}
use native.Mathlib.Numerals.{add-one}
use native.Mathlib.Omega.{arith}
use native.Mathlib.Decide.{ℕ_discrete}
use mathlib.Core.Path.{◌≡◌, refl, sym, ap, ap₂, ◌∙◌}
use mathlib.Core.Bool.{Bool, true, false}
use mathlib.Core.List.{List, [], ◌∷◌, ◌++◌}
use lib.ListN.{length, get_or, take, drop, set, length-set}
use lib.Seq.{take-take, drop-drop, get_or-take, get_or-set_same, get_or-set_other}
use lib.Dec.{eqb}
use borrow.Rule.Slice.PartMut.{mid_of, put_mid, mid_len, drop_put}
use Rattle.lists.specs.Lists.{up_to, tab, pick, keep, kept_of, padded}
use Rattle.columns.specs.View.{NextMarked, Shifted}
use Rattle.columns.specs.Block.{cell, stack, block_of, BlockKept, BlockShifted, BlockCopied, RowCopied}
use Rattle.columns.proofs.Rows.{tab_length}
use Rattle.columns.proofs.Keep.{Compacting, compact_start, compact_more, compact_done, compact_row}
use Rattle.columns.proofs.Cells.{next_col, col_fits, store_same, store_row, store_col, part_before, part_in, part_length, part_front, mid_at}

-- what is kept is among what was there
pub kept_few : {A : Type 0} (m : List ℕ) (l : List A) → length (keep m l) ≤ length l
unfolding keep
kept_few m [] = zero-le
kept_few [] (a ∷ l) = suc-le-suc (kept_few [] l)
kept_few (b ∷ m) (a ∷ l) = by (eqb b 1) (kept_few m l)
  where
    by : (t : Bool) → length (keep m l) ≤ length l → length (pick t (keep m l) (a ∷ keep m l)) ≤ suc (length l)
    by true h = omega arith
    by false h = suc-le-suc h

-- a mask leaves at most n of n places
pub kept_le : (m : List ℕ) (n : ℕ) → kept_of m n ≤ n
unfolding kept_of up_to
kept_le m n = omega (arith, kept_few m (tab n (λ k. k)), tab_length n (λ k. k))

-- ---- move
-- at the head of the loop over one column: i places are moved
pub record Shifting {A : Type 0} (d : A) (to from : ℕ) (s₀ s : List A) (i : ℕ) : Type 0 where
  pub long : length s ≡ length s₀
  pub moved : (k : ℕ) → k < i → get_or s (to + k) d ≡ get_or s₀ (from + k) d
  pub other : (j : ℕ) → (to ≤ j → j < to + i → ⊥) → get_or s j d ≡ get_or s₀ j d

module _ {A : Type 0} (d : A) (to from : ℕ) where
  -- before the first turn no place is moved
  pub shift_start : (s : List A) → Shifting d to from s s 0
  shift_start s = record { long = refl; moved = λ k h. absurd (not-suc-le-zero h); other = λ j h. refl }

  -- a turn moves one place more: it lies behind all that were written
  pub shift_more : (s₀ s : List A) (i : ℕ) → Shifting d to from s₀ s i → to ≤ from → from + i < length s₀ → Shifting d to from s₀ (set s (to + i) (get_or s (from + i) d)) (i + 1)
  shift_more s₀ s i v h g =
      record {
        long = length-set s (to + i) (get_or s (from + i) d) ∙ v.long;
        moved = λ k p. by k p (ℕ_discrete k i);
        other = λ j p. get_or-set_other s (to + i) j (get_or s (from + i) d) d (λ e. p (omega arith) (omega arith)) ∙ v.other j (λ a b. p a (omega arith));
      }
    where
      by : (k : ℕ) → k < i + 1 → Dec (k ≡ i) → get_or (set s (to + i) (get_or s (from + i) d)) (to + k) d ≡ get_or s₀ (from + k) d
      by k p (yes e) = rw e (get_or-set_same s (to + i) (get_or s (from + i) d) d (omega (arith, v.long)) ∙ v.other (from + i) (λ a b. omega arith))
      by k p (no e) = get_or-set_other s (to + i) (to + k) (get_or s (from + i) d) d (λ q. e (omega arith)) ∙ v.moved k (omega (arith, e))

  -- after the last turn all are moved
  pub shift_done : (s₀ s : List A) (i len : ℕ) → Shifting d to from s₀ s i → i ≡ len → Shifted d to from len s₀ s
  shift_done s₀ s i len v e = rw (← e) (record { moved = v.moved; other = v.other })

-- at the head of the loop over the columns: those before c are done, and the others are as they were
pub record BlockShifting {A : Type 0} (d : A) (to from len w R : ℕ) (s₀ s : List A) (c o : ℕ) : Type 0 where
  pub at : o ≡ c * R
  pub below : c ≤ w
  pub long : length s ≡ length s₀
  pub moved : (j k : ℕ) → j < c → k < len → cell d R s j (to + k) ≡ cell d R s₀ j (from + k)
  pub other : (j k : ℕ) → k < R → (j < c → to ≤ k → k < to + len → ⊥) → cell d R s j k ≡ cell d R s₀ j k

module _ {A : Type 0} (d : A) (to from len w R : ℕ) where
  -- before the first turn no column is done
  pub block_shift_start : (s : List A) → BlockShifting d to from len w R s s 0 0
  block_shift_start s =
      record { at = sym (zero-mul R); below = zero-le; long = refl; moved = λ j k h. absurd (not-suc-le-zero h); other = λ j k h n. refl }

  -- a shift in column c, by its cells
  shift_moves : (s s' : List A) (c : ℕ) → Shifted d (c * R + to) (c * R + from) len s s' → (k : ℕ) → k < len → cell d R s' c (to + k) ≡ cell d R s c (from + k)
  unfolding cell
  shift_moves s s' c q k h =
      let a : c * R + to + k ≡ c * R + (to + k) = omega arith in
      let b : c * R + from + k ≡ c * R + (from + k) = omega arith in
      ap (λ (x : ℕ). get_or s' x d) (sym a) ∙ q.moved k h ∙ ap (λ (x : ℕ). get_or s x d) b

  -- a shift in column c leaves the cells of other columns, and of other rows
  shift_leaves : (s s' : List A) (c : ℕ) → Shifted d (c * R + to) (c * R + from) len s s' → to ≤ from → from + len ≤ R
      → (j k : ℕ) → k < R → (j ≡ c → to ≤ k → k < to + len → ⊥) → cell d R s' j k ≡ cell d R s j k
  unfolding cell
  shift_leaves s s' c q h g j k hk ne = q.other (j * R + k) out
    where
      out : c * R + to ≤ j * R + k → j * R + k < c * R + to + len → ⊥
      out a b =
          let low : j < c → ⊥ = λ l. omega (arith, col_fits j c R l) in
          let high : c < j → ⊥ = λ l. omega (arith, col_fits c j R l) in
          let e : j ≡ c = omega (arith, low, high) in
          let f : j * R ≡ c * R = ap (λ (x : ℕ). x * R) e in
          ne e (omega arith) (omega arith)

  module _ (s₀ s : List A) (c o : ℕ) (v : BlockShifting d to from len w R s₀ s c o) (h : c < w) (back : to ≤ from) (few : from + len ≤ R) (room : w * R ≤ length s₀) where
    -- the turn's column lies in the block
    pub shift_fits : o + R ≤ length s
    shift_fits = omega (arith, col_fits c w R h, v.at, v.long)

    -- a turn does one column more
    pub block_shift_more : (s' : List A) → Shifted d (o + to) (o + from) len s s' → length s' ≡ length s → BlockShifting d to from len w R s₀ s' (c + 1) (o + R)
    block_shift_more s' q long =
        record {
          at = ap (λ (x : ℕ). x + R) v.at ∙ sym (next_col c R);
          below = omega arith;
          long = long ∙ v.long;
          moved = λ j k hj hk. by j k hj hk (ℕ_discrete j c);
          other = λ j k hk ne. shift_leaves s s' c here back few j k hk (λ e. ne (omega arith)) ∙ v.other j k hk (λ l. ne (omega arith));
        }
      where
        here : Shifted d (c * R + to) (c * R + from) len s s'
        here = rw (← v.at) q

        by : (j k : ℕ) → j < c + 1 → k < len → Dec (j ≡ c) → cell d R s' j (to + k) ≡ cell d R s₀ j (from + k)
        by j k hj hk (yes e) = rw e (shift_moves s s' c here k hk ∙ v.other c (from + k) (omega arith) (λ l. absurd (omega arith)))
        by j k hj hk (no e) = shift_leaves s s' c here back few j (to + k) (omega arith) (λ x. absurd (e x)) ∙ v.moved j k (omega (arith, e)) hk

  -- after the last turn every column is done
  pub block_shift_done : (s₀ s : List A) (c o : ℕ) → BlockShifting d to from len w R s₀ s c o → w ≤ c → BlockShifted d to from len w R s₀ s
  block_shift_done s₀ s c o v h =
      record { moved = λ j k hj hk. v.moved j k (omega arith) hk; other = λ j k hk ne. v.other j k hk (λ _. ne) }

-- ---- keep
-- at the head of the loop: each column is compacted up to row r, and left rows of it stand at the front
pub record BlockKeeping {A : Type 0} (d : A) (m : List ℕ) (n w R : ℕ) (s₀ s : List A) (left r : ℕ) : Type 0 where
  pub long : length s ≡ length s₀
  pub within : left ≤ r
  pub below : r ≤ n
  pub columns : (c : ℕ) → c < w → Compacting m n (λ k. cell d R s₀ c k) (λ k. cell d R s c k) left r

module _ {A : Type 0} (d : A) (m : List ℕ) (n w R : ℕ) where
  -- before the first turn nothing but what stands before the first marked row is kept
  pub block_keep_start : (s : List A) (r : ℕ) → NextMarked m 0 n r → BlockKeeping d m n w R s s r r
  block_keep_start s r x = record { long = refl; within = omega arith; below = x.below; columns = λ c h. compact_start m n _ r x }

  -- a turn moves the rows up to the next marked one
  pub block_keep_more : (s₀ s s' : List A) (left r b : ℕ) → BlockKeeping d m n w R s₀ s left r → r < n → NextMarked m (r + 1) n b → BlockShifted d left (r + 1) (b - (r + 1)) w R s s' → length s' ≡ length s → n ≤ R
      → BlockKeeping d m n w R s₀ s' (left + (b - (r + 1))) b
  block_keep_more s₀ s s' left r b v h x q long few =
      record {
        long = long ∙ v.long;
        within = omega (arith, v.within, x.above);
        below = x.below;
        columns = λ c p. compact_more m n _ _ _ left r b (v.columns c p) h x (record { moved = λ k l. q.moved c k p l; other = λ k l. q.other c k (omega arith) });
      }

  -- after the last turn every column is done
  pub block_keep_done : (s₀ s : List A) (left r : ℕ) → BlockKeeping d m n w R s₀ s left r → n ≤ r → 0 < w → BlockKept d m n w R s₀ s left
  block_keep_done s₀ s left r v h some =
      record { count = (compact_done m n _ _ left r (v.columns 0 some) h).0; cells = λ c k p l. compact_row m n _ _ left r (v.columns c p) h d k l }

-- ---- copy
-- at the head of the loop: columns before c are copied
pub record BlockCopying {A : Type 0} (d : A) (n w R : ℕ) (src s₀ s : List A) (c o a : ℕ) : Type 0 where
  pub at : o ≡ c * R
  pub from : a ≡ c * n
  pub below : c ≤ w
  pub long : length s ≡ length s₀
  pub done : (j k : ℕ) → j < c → k < n → cell d R s j k ≡ cell d n src j k

module _ {A : Type 0} (d : A) (n w R : ℕ) (src : List A) where
  -- before the first turn no column is copied
  pub block_copy_start : (s : List A) → BlockCopying d n w R src s s 0 0 0
  block_copy_start s = record { at = sym (zero-mul R); from = sym (zero-mul n); below = zero-le; long = refl; done = λ j k h. absurd (not-suc-le-zero h) }

  module _ (s₀ s : List A) (c o a : ℕ) (v : BlockCopying d n w R src s₀ s c o a) (h : c < w) (given : w * n ≤ length src) (room : w * R ≤ length s₀) (few : n ≤ R) where
    -- the turn's column lies in the block
    pub copy_part_fits : o + R ≤ length s
    copy_part_fits = omega (arith, col_fits c w R h, v.at, v.long)

    -- the turn's column lies in the source
    pub copy_part_given : a + n ≤ length src
    copy_part_given = omega (arith, col_fits c w n h, v.from)

    -- a turn copies one column more
    pub block_copy_more : (p : List A) → take (length (mid_of a (a + n - a) src)) p ≡ mid_of a (a + n - a) src → length p ≡ length (mid_of o (o + R - o) s) → BlockCopying d n w R src s₀ (put_mid o (o + R - o) s p) (c + 1) (o + R) (a + n)
    unfolding cell
    block_copy_more p q long =
        record {
          at = ap (λ (x : ℕ). x + R) v.at ∙ sym (next_col c R);
          from = ap (λ (x : ℕ). x + n) v.from ∙ sym (next_col c n);
          below = omega arith;
          long = part_length d s p o R fits long ∙ v.long;
          done = λ j k hj hk. by j k hj hk (ℕ_discrete j c);
        }
      where
        fits : o + R ≤ length s
        fits = copy_part_fits

        wide : length (mid_of a (a + n - a) src) ≡ n
        wide = let e : a + n - a ≡ n = omega arith in mid_len a (a + n) src copy_part_given ∙ e

        by : (j k : ℕ) → j < c + 1 → k < n → Dec (j ≡ c) → get_or (put_mid o (o + R - o) s p) (j * R + k) d ≡ get_or src (j * n + k) d
        by j k hj hk (yes q') =
            let f : j * R ≡ o = ap (λ (x : ℕ). x * R) q' ∙ sym v.at in
            let g : j * n ≡ a = ap (λ (x : ℕ). x * n) q' ∙ sym v.from in
            rw (f, g)
            (part_in d s p o R fits long k (omega arith) ∙ sym (get_or-take (length (mid_of a (a + n - a) src)) p k d (rw wide hk)) ∙ ap (λ (t : List A). get_or t k d) q ∙ mid_at d src a n k hk)
        by j k hj hk (no q') =
            let g : j < c = omega (arith, q') in
            part_before d s p o R fits long (j * R + k) (omega (arith, col_fits j c R g, v.at)) ∙ v.done j k g hk

  -- after the last turn every column is copied
  pub block_copy_done : (s₀ s : List A) (c o a : ℕ) → BlockCopying d n w R src s₀ s c o a → w ≤ c → BlockCopied d n w R src s
  block_copy_done s₀ s c o a v h = record { cells = λ j k hj hk. v.done j k (omega arith) hk }

-- ---- clear
-- at the head of the loop: columns before c are cleared, and the rest is as it was
pub record BlockClearing {A : Type 0} (z : A) (n w R : ℕ) (s₀ s : List A) (c o : ℕ) : Type 0 where
  pub at : o ≡ c * R
  pub below : c ≤ w
  pub long : length s ≡ length s₀
  pub front : take o s ≡ stack c (λ j. padded R z (take n (drop (j * R) s₀)))
  pub rest : drop o s ≡ drop o s₀

module _ {A : Type 0} (z : A) (n w R : ℕ) where
  -- before the first turn no column is cleared
  pub block_clear_start : (s : List A) → BlockClearing z n w R s s 0 0
  unfolding stack
  block_clear_start s = record { at = sym (zero-mul R); below = zero-le; long = refl; front = refl; rest = refl }

  module _ (s₀ s : List A) (c o : ℕ) (v : BlockClearing z n w R s₀ s c o) (h : c < w) (room : w * R ≤ length s₀) (few : n ≤ R) where
    -- the turn's column lies in the block
    pub clear_part_fits : o + R ≤ length s
    clear_part_fits = omega (arith, col_fits c w R h, v.at, v.long)

    -- a turn clears one column more
    pub block_clear_more : (p : List A) → p ≡ padded (length (mid_of o (o + R - o) s)) z (take n (mid_of o (o + R - o) s)) → length p ≡ length (mid_of o (o + R - o) s) → BlockClearing z n w R s₀ (put_mid o (o + R - o) s p) (c + 1) (o + R)
    unfolding stack
    block_clear_more p q long =
        record {
          at = ap (λ (x : ℕ). x + R) v.at ∙ sym (next_col c R);
          below = omega arith;
          long = part_length z s p o R fits long ∙ v.long;
          front = part_front z s p o R fits long ∙ rw (add-one c) (ap₂ (λ (a b : List A). a ++ b) v.front column);
          rest = drop_put o (o + R) s p (omega arith) fits (long ∙ mid_len o (o + R) s fits) ∙ sym (drop-drop R o s) ∙ ap (drop R) v.rest ∙ drop-drop R o s₀;
        }
      where
        fits : o + R ≤ length s
        fits = clear_part_fits

        e : o + R - o ≡ R
        e = omega arith

        column : p ≡ padded R z (take n (drop (c * R) s₀))
        column =
            q ∙ ap₂ (λ (k : ℕ) (t : List A). padded k z t) (mid_len o (o + R) s fits ∙ e)
            (take-take n (o + R - o) (drop o s) (omega arith) ∙ ap (take n) v.rest ∙ ap (λ (x : ℕ). take n (drop x s₀)) v.at)

  -- after the last turn the columns end within the block
  pub block_clear_all : (s₀ s : List A) (c o : ℕ) → BlockClearing z n w R s₀ s c o → w ≤ c → w * R ≤ length s₀ → o ≤ length s
  block_clear_all s₀ s c o v h room =
      let e : c ≡ w = omega (arith, v.below) in
      let f : c * R ≡ w * R = ap (λ (x : ℕ). x * R) e in
      omega (arith, v.at, v.long)

  -- with what is left over cleared too, the block is as stated
  pub block_clear_done : (s₀ s s' : List A) (c o : ℕ) → BlockClearing z n w R s₀ s c o → w ≤ c → s' ≡ padded (length s) z (take o s) → s' ≡ block_of (length s₀) w R z (λ j. take n (drop (j * R) s₀))
  block_clear_done s₀ s s' c o v h q =
      let e : c ≡ w = omega (arith, v.below) in
      q ∙ ap₂ (λ (k : ℕ) (t : List A). padded k z t) v.long (v.front ∙ ap (λ (x : ℕ). stack x (λ j. padded R z (take n (drop (j * R) s₀)))) e)

-- ---- a row
-- at the head of the loop: the row is copied in the columns before c
pub record RowCopying {A : Type 0} (d : A) (v i w R : ℕ) (s₀ s : List A) (c o : ℕ) : Type 0 where
  pub at : o ≡ c * R
  pub below : c ≤ w
  pub long : length s ≡ length s₀
  pub new : (j : ℕ) → j < c → cell d R s j i ≡ cell d R s₀ j v
  pub old : (j k : ℕ) → k < R → (k ≡ i → ⊥) → cell d R s j k ≡ cell d R s₀ j k

module _ {A : Type 0} (d : A) (v i w R : ℕ) where
  -- before the first turn no row is copied
  pub row_copy_start : (s : List A) → RowCopying d v i w R s s 0 0
  row_copy_start s = record { at = sym (zero-mul R); below = zero-le; long = refl; new = λ j h. absurd (not-suc-le-zero h); old = λ j k h o. refl }

  module _ (s₀ s : List A) (c o : ℕ) (r : RowCopying d v i w R s₀ s c o) (h : c < w) (room : w * R ≤ length s₀) (far : v < i) (here : i < R) where
    -- the turn's column lies in the block
    pub row_fits : o + R ≤ length s
    row_fits = omega (arith, col_fits c w R h, r.at, r.long)

    -- a turn copies the row in one column more
    pub row_copy_more : RowCopying d v i w R s₀ (set s (o + i) (get_or s (o + v) d)) (c + 1) (o + R)
    unfolding cell
    row_copy_more =
        rw r.at
        (record {
          at = sym (next_col c R);
          below = omega arith;
          long = length-set s (c * R + i) (get_or s (c * R + v) d) ∙ r.long;
          new = λ j hj. by j hj (ℕ_discrete j c);
          old = λ j k hk ne. store_row d R s c i (get_or s (c * R + v) d) j k hk here ne ∙ r.old j k hk ne;
        })
      where
        inside : c * R + i < length s
        inside = omega (arith, row_fits, r.at)

        by : (j : ℕ) → j < c + 1 → Dec (j ≡ c) → cell d R (set s (c * R + i) (get_or s (c * R + v) d)) j i ≡ cell d R s₀ j v
        by j hj (yes q) = rw q (store_same d R s c i (get_or s (c * R + v) d) inside ∙ r.old c v (omega arith) (λ e. omega arith))
        by j hj (no q) = store_col d R s c i (get_or s (c * R + v) d) j i here here q ∙ r.new j (omega (arith, q))

  -- after the last turn the row is copied in every column
  pub row_copy_done : (s₀ s : List A) (c o : ℕ) → RowCopying d v i w R s₀ s c o → w ≤ c → RowCopied d v i w R s₀ s
  row_copy_done s₀ s c o r h = record { new = λ j hj. r.new j (omega arith); old = r.old }
