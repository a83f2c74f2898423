-- Laws of a cell that is new in the block, put into the chains of its corners one by one. Assumes nothing.
use Prim.Native.Nat.{ℕ, suc, ◌+◌, ◌*◌, ◌≤◌, ◌<◌, zero-le, ◌-◌}
use native.Mathlib.Nat.{not-suc-le-zero, zero-mul}
use native.Mathlib.Numerals.{add-one}
use native.Mathlib.Omega.{arith}
use native.Mathlib.Decide.{ℕ_discrete, dec_lt}
use borrow.Author.Tests.{eq-eqb, ne_eqb}
use mathlib.Core.Path.{◌≡◌, refl, sym, ap, ◌∙◌, subst}
use mathlib.Core.Bool.{false}
use mathlib.Core.List.{List}
use lib.ListN.{length, get_or}
use Rattle.columns.specs.Block.{cell}
use Rattle.columns.proofs.Cells.{next_col, col_fits}
use Rattle.links.specs.Links.{lowest, holds, first_of, next_of, LinksOf}
use Rattle.link_changes.specs.Changes.{corner_moved, corner_gone, ChainRoom, CellPut, AppendRoom}
use Rattle.links.proofs.Lowest.{low_end, low_last, holds_none, holds_ext}
use Rattle.links.proofs.Same.{links_ext}
use Rattle.link_changes.proofs.Chained.{moved_here, moved_row, moved_column, apart_fewer, apart_ext, put_linked}
use Rattle.link_changes.proofs.Slots.{chain_room}

-- at the head of the loop: the table is that of n + 1 cells, of which the last has its first c corners, and none for the others
pub record Appending (P k R S n : ℕ) (corner : ℕ → ℕ → ℕ) (lt : ℕ) (t : List ℕ) (c o : ℕ) : Type 0 where
  pub below : c ≤ k
  pub at : o ≡ c * S
  pub long : length t ≡ lt
  pub made : ℕ → ℕ → ℕ
  pub rows : (b j : ℕ) → j < n → corner b j ≡ made b j
  pub done : (b : ℕ) → b < c → made b n ≡ corner b n
  pub blank : (b : ℕ) → c ≤ b → P ≤ made b n
  pub linked : LinksOf P k R (n + 1) made t

module _ (P k R n : ℕ) (corner : ℕ → ℕ → ℕ) (t : List ℕ) (L : LinksOf P k R n corner t) (below : (c i : ℕ) → c < k → i < n → corner c i < P) where
  row : (b j : ℕ) → j < n → corner b j ≡ corner_gone P n corner b j
  unfolding corner_gone
  row b j h = rw (ne_eqb j n (λ e. omega arith))

  none : (b : ℕ) → corner_gone P n corner b n ≡ P
  unfolding corner_gone
  none b = rw (eq-eqb n n refl)

  -- a cell without corners is in no chain
  more : (v a : ℕ) → v < P → a ≤ n → lowest (holds k corner v) a (n - a) ≡ lowest (holds k (corner_gone P n corner) v) a (suc n - a)
  more v a l h =
      let e : suc n - a ≡ suc (n - a) = omega arith in
      let f : a + (n - a) ≡ n = omega arith in
      rw e
      (low_last (holds k corner v) (holds k (corner_gone P n corner) v) a (n - a) (λ j x y. holds_ext k corner (corner_gone P n corner) v j (λ b z. row b j (omega arith)))
      (ap (holds k (corner_gone P n corner) v) f ∙ holds_none k (corner_gone P n corner) n v (λ b z q. let s = none b in omega arith)))

  without_linked : LinksOf P k R (suc n) (corner_gone P n corner) t
  unfolding first_of next_of
  without_linked =
      record {
        heads = λ v l. let e : n ≡ n - 0 = omega arith in let f : suc n - 0 ≡ suc n = omega arith in L.heads v l ∙ ap (lowest (holds k corner v) 0) e ∙ more v 0 l zero-le ∙ ap (lowest (holds k (corner_gone P n corner) v) 0) f;
        links = λ c i l m. L.links c i l m ∙ link c i l (dec_lt i n);
      }
    where
      link : (c i : ℕ) → c < k → Dec (i < n) → lowest (holds k corner (corner c i)) (suc i) (n - suc i) ≡ lowest (holds k (corner_gone P n corner) (corner_gone P n corner c i)) (suc i) (suc n - suc i)
      link c i l (yes h) = more (corner c i) (suc i) (below c i l h) h ∙ ap (λ (z : ℕ). lowest (holds k (corner_gone P n corner) z) (suc i) (suc n - suc i)) (row c i h)
      link c i l (no h) = low_end _ (suc i) (n - suc i) (omega (arith, h)) ∙ sym (low_end _ (suc i) (suc n - suc i) (omega (arith, h)))

-- ---- as the program has it

module _ (P k R S n : ℕ) (s t₀ : List ℕ) (I : AppendRoom P k R S n s t₀) where
  pub appending_start : Appending P k R S n (cell 0 S s) (length t₀) t₀ 0 0
  appending_start =
      record {
        below = zero-le;
        at = sym (zero-mul S);
        long = refl;
        made = corner_gone P n (cell 0 S s);
        rows = row P k R n (cell 0 S s) t₀ I.linked low;
        done = λ b h. absurd (not-suc-le-zero h);
        blank = λ b h. let e = none P k R n (cell 0 S s) t₀ I.linked low b in omega arith;
        linked = rw (add-one n) (without_linked P k R n (cell 0 S s) t₀ I.linked low);
      }
    where
      low : (c i : ℕ) → c < k → i < n → cell 0 S s c i < P
      low c i h l = I.apart.below c i h (omega arith)

  pub appending_done : (t : List ℕ) (c o : ℕ) → Appending P k R S n (cell 0 S s) (length t₀) t c o → k ≤ c → LinksOf P k R (n + 1) (cell 0 S s) t
  appending_done t c o G h = links_ext P k R (n + 1) G.made (cell 0 S s) t (λ b j x y. by b j x y (ℕ_discrete j n)) G.linked
    where
      by : (b j : ℕ) → b < k → j < n + 1 → Dec (j ≡ n) → G.made b j ≡ cell 0 S s b j
      by b j x y (yes e) = rw e (G.done b (omega arith))
      by b j x y (no e) = sym (G.rows b j (omega (arith, e)))

  module _ (t : List ℕ) (c o : ℕ) (G : Appending P k R S n (cell 0 S s) (length t₀) t c o) (h : c < k) where
    pub appending_column : o + S ≤ length s
    appending_column = omega (arith, col_fits c k S h, G.at, I.room.columns)

    pub appending_corner : o + n < length s
    appending_corner = omega (arith, appending_column, I.room.rows)

    read : cell 0 S s c n ≡ get_or s (o + n) 0
    unfolding cell
    read = ap (λ (x : ℕ). get_or s (x + n) 0) (sym G.at)

    low : get_or s (o + n) 0 < P
    low = subst (λ (x : ℕ). x < P) read (I.apart.below c n h (omega arith))

    pub appending_room : ChainRoom (get_or s (o + n) 0) n c P k R S s t
    appending_room = chain_room (get_or s (o + n) 0) n c P k R S (n + 1) s t (length t₀) I.room G.long (omega arith) h low G.made (λ b j x y. sym (G.rows b j y)) G.linked

    -- no corner before it is the same
    fresh : holds k G.made (get_or s (o + n) 0) n ≡ false
    fresh = holds_none k G.made n (get_or s (o + n) 0) (λ b x e. by b x e (dec_lt b c))
      where
        by : (b : ℕ) → b < k → G.made b n ≡ get_or s (o + n) 0 → Dec (b < c) → ⊥
        by b x e (yes l) = I.apart.apart b c n l h (omega arith) (sym (G.done b l) ∙ e ∙ sym read)
        by b x e (no l) = let p = G.blank b (omega (arith, l)) in omega (arith, low)

    pub appending_more : (t' : List ℕ) → length t' ≡ length t → CellPut P k R (get_or s (o + n) 0) n c (cell 0 S s) t t' → Appending P k R S n (cell 0 S s) (length t₀) t' (c + 1) (o + S)
    appending_more t' e C =
        record {
          below = omega arith;
          at = ap (λ (x : ℕ). x + S) G.at ∙ sym (next_col c S);
          long = e ∙ G.long;
          made = corner_moved n c (get_or s (o + n) 0) G.made;
          rows = λ b j l. G.rows b j l ∙ moved_row P k R n c (get_or s (o + n) 0) G.made b j (λ q. omega arith);
          done = λ b l. by b l (ℕ_discrete b c);
          blank = λ b l. subst (λ (x : ℕ). P ≤ x) (moved_column P k R n c (get_or s (o + n) 0) G.made b (λ q. omega arith)) (G.blank b (omega arith));
          linked =
              put_linked P k R G.made (cell 0 S s) (n + 1) n c (get_or s (o + n) 0) t t' G.linked (omega arith) (omega (arith, I.room.cells)) h low
              (apart_ext P k n (cell 0 S s) G.made (λ b j x y. G.rows b j y) (apart_fewer P k n (n + 1) (cell 0 S s) (omega arith) I.apart))
              (λ b j x y. G.rows b j y) (G.blank c (omega arith)) fresh C;
        }
      where
        by : (b : ℕ) → b < c + 1 → Dec (b ≡ c) → corner_moved n c (get_or s (o + n) 0) G.made b n ≡ cell 0 S s b n
        by b l (yes q) = rw q (moved_here P k R n c (get_or s (o + n) 0) G.made ∙ sym read)
        by b l (no q) = sym (moved_column P k R n c (get_or s (o + n) 0) G.made b q) ∙ G.done b (omega (arith, q))
