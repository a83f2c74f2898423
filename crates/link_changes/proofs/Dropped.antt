-- Laws of a cell that goes: it is taken out of the chains of its corners, the links behind it move up, and the numbers above it are less by one. Assumes nothing.
use Prim.Native.Nat.{ℕ, zero, suc, ◌+◌, ◌*◌, ◌≤◌, ◌<◌, zero-le, ◌-◌}
use native.Mathlib.Nat.{not-suc-le-zero, zero-mul}
use native.Mathlib.Numerals.{add-one}
use native.Mathlib.Omega.{arith}
use native.Mathlib.Decide.{ℕ_discrete, dec_lt}
use borrow.Author.Tests.{eq-eqb, ne_eqb, lt-ltb, le-ltb}
use mathlib.Core.Path.{◌≡◌, refl, sym, ap, ◌∙◌, subst}
use mathlib.Core.Bool.{Bool, true, false}
use mathlib.Core.List.{List}
use lib.ListN.{length, get_or, set, length-set}
use lib.Seq.{get_or-set_same, get_or-set_other}
use lib.Dec.{eqb, ltb}
use Rattle.lists.specs.Lists.{pick, stands}
use Rattle.lists.proofs.Sifts.{tab_ext}
use Rattle.columns.specs.Block.{cell}
use Rattle.columns.specs.View.{Shifted}
use Rattle.columns.proofs.Cells.{next_col, col_fits}
use Rattle.links.specs.Links.{lowest, holds, first_of, next_of, LinksOf}
use Rattle.link_changes.specs.Changes.{corner_moved, corner_gone, corner_dropped, less_one, ChainRoom, CellTaken, DropRoom, RaiseRoom, LinksRaised, NumbersLowered}
use Rattle.links.proofs.Lowest.{low_end, holds_none}
use Rattle.links.proofs.Same.{links_ext}
use Rattle.link_changes.proofs.Chained.{moved_here, moved_row, moved_column, apart_fewer, apart_ext, take_linked}
use Rattle.link_changes.proofs.Slots.{chain_room}

-- ---- the cell taken out at each of its corners

-- at the head of the loop: the cell has none for its first c corners
pub record Leaving (P k R S n i : ℕ) (corner : ℕ → ℕ → ℕ) (lt : ℕ) (t : List ℕ) (c o : ℕ) : Type 0 where
  pub below : c ≤ k
  pub at : o ≡ c * S
  pub long : length t ≡ lt
  pub made : ℕ → ℕ → ℕ
  pub rows : (b j : ℕ) → (j ≡ i → ⊥) → corner b j ≡ made b j
  pub left : (b : ℕ) → c ≤ b → corner b i ≡ made b i
  pub gone : (b : ℕ) → b < c → made b i ≡ P
  pub linked : LinksOf P k R n made t

module _ (i P k R S n : ℕ) (s t₀ : List ℕ) (I : DropRoom i P k R S n s t₀) where
  pub leaving_start : Leaving P k R S n i (cell 0 S s) (length t₀) t₀ 0 0
  leaving_start =
      record { below = zero-le; at = sym (zero-mul S); long = refl; made = cell 0 S s; rows = λ b j h. refl; left = λ b h. refl; gone = λ b h. absurd (not-suc-le-zero h); linked = I.linked }

  pub leaving_done : (t : List ℕ) (c o : ℕ) → Leaving P k R S n i (cell 0 S s) (length t₀) t c o → k ≤ c → LinksOf P k R n (corner_gone P i (cell 0 S s)) t
  unfolding corner_gone
  leaving_done t c o G h = links_ext P k R n G.made (corner_gone P i (cell 0 S s)) t (λ b j x y. by b j x (ℕ_discrete j i)) G.linked
    where
      by : (b j : ℕ) → b < k → Dec (j ≡ i) → G.made b j ≡ pick (eqb j i) P (cell 0 S s b j)
      by b j x (yes e) = rw (eq-eqb j i e) (ap (G.made b) e ∙ G.gone b (omega arith))
      by b j x (no e) = rw (ne_eqb j i e) (sym (G.rows b j e))

  module _ (t : List ℕ) (c o : ℕ) (G : Leaving P k R S n i (cell 0 S s) (length t₀) t c o) (h : c < k) where
    pub leaving_column : o + S ≤ length s
    leaving_column = omega (arith, col_fits c k S h, G.at, I.room.columns)

    pub leaving_corner : o + i < length s
    leaving_corner = omega (arith, leaving_column, I.room.rows, I.here)

    read : cell 0 S s c i ≡ get_or s (o + i) 0
    unfolding cell
    read = ap (λ (x : ℕ). get_or s (x + i) 0) (sym G.at)

    low : get_or s (o + i) 0 < P
    low = subst (λ (x : ℕ). x < P) read (I.apart.below c i h I.here)

    pub leaving_room : ChainRoom (get_or s (o + i) 0) i c P k R S s t
    leaving_room = chain_room (get_or s (o + i) 0) i c P k R S n s t (length t₀) I.room G.long I.here h low G.made (λ b j x y. sym (G.rows b j (λ e. omega arith))) G.linked

    -- it has the corner once
    once : (b : ℕ) → b < k → (b ≡ c → ⊥) → G.made b i ≡ get_or s (o + i) 0 → ⊥
    once b x ne e = by (dec_lt b c)
      where
        by : Dec (b < c) → ⊥
        by (yes l) = let g = G.gone b l in omega (arith, low)
        by (no l) = I.apart.apart c b i (omega (arith, l, ne)) x I.here (read ∙ sym e ∙ sym (G.left b (omega (arith, l))))

    pub leaving_more : (t' : List ℕ) → length t' ≡ length t → CellTaken P k R (get_or s (o + i) 0) i c (cell 0 S s) t t' → Leaving P k R S n i (cell 0 S s) (length t₀) t' (c + 1) (o + S)
    leaving_more t' e C =
        record {
          below = omega arith;
          at = ap (λ (x : ℕ). x + S) G.at ∙ sym (next_col c S);
          long = e ∙ G.long;
          made = corner_moved i c P G.made;
          rows = λ b j ne. G.rows b j ne ∙ moved_row P k R i c P G.made b j ne;
          left = λ b l. G.left b (omega arith) ∙ moved_column P k R i c P G.made b (λ q. omega arith);
          gone = λ b l. by b l (ℕ_discrete b c);
          linked =
              take_linked P k R G.made (cell 0 S s) n i c (get_or s (o + i) 0) t t' G.linked I.here I.room.cells h low
              (apart_ext P k i (cell 0 S s) G.made (λ b j x y. G.rows b j (λ q. omega arith)) (apart_fewer P k i n (cell 0 S s) (omega (arith, I.here)) I.apart))
              (λ b j x y. G.rows b j (λ q. omega arith)) (sym (G.left c (omega arith)) ∙ read) once
              (λ b j x y z. subst (λ (u : ℕ). u < P) (G.rows b j (λ q. omega arith)) (I.apart.below b j x z)) C;
        }
      where
        by : (b : ℕ) → b < c + 1 → Dec (b ≡ c) → corner_moved i c P G.made b i ≡ P
        by b l (yes q) = rw q (moved_here P k R i c P G.made)
        by b l (no q) = sym (moved_column P k R i c P G.made b q) ∙ G.gone b (omega (arith, q))

-- ---- the links moved up, column by column

pub record Raising (i P k R n : ℕ) (t₀ t : List ℕ) (c o : ℕ) : Type 0 where
  pub below : c ≤ k
  pub at : o ≡ P + c * R
  pub long : length t ≡ length t₀
  pub heads : (v : ℕ) → v < P → get_or t v 0 ≡ get_or t₀ v 0
  pub raised : (b j : ℕ) → b < c → i ≤ j → suc j < n → get_or t (P + (b * R + j)) 0 ≡ get_or t₀ (P + (b * R + suc j)) 0
  pub others : (b j : ℕ) → j < R → (b < c → i ≤ j → suc j < n → ⊥) → get_or t (P + (b * R + j)) 0 ≡ get_or t₀ (P + (b * R + j)) 0

module _ (i P k R n : ℕ) where
  pub raising_start : (t : List ℕ) → Raising i P k R n t t 0 P
  raising_start t =
      let z = zero-mul R in
      record { below = zero-le; at = omega arith; long = refl; heads = λ v l. refl; raised = λ b j x. absurd (not-suc-le-zero x); others = λ b j x y. refl }

  pub raising_done : (t₀ t : List ℕ) (c o : ℕ) → Raising i P k R n t₀ t c o → k ≤ c → LinksRaised i P k R n t₀ t
  raising_done t₀ t c o G h = record { heads = G.heads; raised = λ b j x y z. G.raised b j (omega arith) y z; others = λ b j x y ne. G.others b j y (λ _. ne) }

  module _ (t₀ t : List ℕ) (c o : ℕ) (G : Raising i P k R n t₀ t c o) (h : c < k) (I : RaiseRoom i P k R n (length t₀)) where
    pub raising_fits : o + R ≤ length t
    raising_fits = omega (arith, col_fits c k R h, G.at, G.long, I.table)

    pub raising_more : (t' : List ℕ) → length t' ≡ length t → Shifted 0 (o + i) (o + i + 1) (n - 1 - i) t t' → Raising i P k R n t₀ t' (c + 1) (o + R)
    raising_more t' e Q =
        record {
          below = omega arith;
          at = let f = next_col c R in omega (arith, G.at);
          long = e ∙ G.long;
          heads = λ v l. Q.other v (λ x y. omega (arith, G.at)) ∙ G.heads v l;
          raised = λ b j x y z. by b j x y z (ℕ_discrete b c);
          others = λ b j x ne. out b j x (λ q y z. ne (omega arith) y z) ∙ G.others b j x (λ q. ne (omega arith));
        }
      where
        -- another place
        out : (b j : ℕ) → j < R → (b ≡ c → i ≤ j → suc j < n → ⊥) → get_or t' (P + (b * R + j)) 0 ≡ get_or t (P + (b * R + j)) 0
        out b j x ne =
            Q.other (P + (b * R + j))
            (λ y z.
            let lo : b < c → ⊥ = λ l. omega (arith, col_fits b c R l, G.at) in
            let hi : c < b → ⊥ = λ l. omega (arith, col_fits c b R l, G.at, I.here, I.cells) in
            let q : b ≡ c = omega (arith, lo, hi) in
            let f : b * R ≡ c * R = ap (λ (u : ℕ). u * R) q in
            ne q (omega (arith, G.at)) (omega (arith, G.at)))

        by : (b j : ℕ) → b < c + 1 → i ≤ j → suc j < n → Dec (b ≡ c) → get_or t' (P + (b * R + j)) 0 ≡ get_or t₀ (P + (b * R + suc j)) 0
        by b j x y z (yes q) =
            let f : o + i + (j - i) ≡ P + (c * R + j) = omega (arith, G.at) in
            let g : o + i + 1 + (j - i) ≡ P + (c * R + suc j) = omega (arith, G.at) in
            rw q
            (ap (λ (u : ℕ). get_or t' u 0) (sym f) ∙ Q.moved (j - i) (omega arith) ∙ ap (λ (u : ℕ). get_or t u 0) g
            ∙ G.others c (suc j) (omega (arith, I.cells)) (λ l. absurd (omega arith)))
        by b j x y z (no q) = out b j (omega (arith, I.cells)) (λ p. absurd (q p)) ∙ G.raised b j (omega (arith, q)) y z

-- ---- the numbers made less

pub less_above : (own y : ℕ) → own < y → y - 1 ≡ less_one own y
unfolding less_one
less_above own y h = rw (lt-ltb own y h)

pub less_other : (own y : ℕ) → y ≤ own → y ≡ less_one own y
unfolding less_one
less_other own y h = rw (le-ltb own y h)

pub record Lowering (own : ℕ) (t₀ t : List ℕ) (i : ℕ) : Type 0 where
  pub long : length t ≡ length t₀
  pub below : i ≤ length t₀
  pub done : (x : ℕ) → x < i → get_or t x 0 ≡ less_one own (get_or t₀ x 0)
  pub left : (x : ℕ) → i ≤ x → get_or t x 0 ≡ get_or t₀ x 0

pub lowering_more : (own : ℕ) (t₀ t : List ℕ) (i r : ℕ) → Lowering own t₀ t i → i < length t → r ≡ less_one own (get_or t i 0) → Lowering own t₀ (set t i r) (i + 1)
lowering_more own t₀ t i r G h e =
    record {
      long = length-set t i r ∙ G.long;
      below = omega (arith, G.long);
      done = λ x l. by x l (ℕ_discrete x i);
      left = λ x l. get_or-set_other t i x r 0 (λ q. omega arith) ∙ G.left x (omega arith);
    }
  where
    by : (x : ℕ) → x < i + 1 → Dec (x ≡ i) → get_or (set t i r) x 0 ≡ less_one own (get_or t₀ x 0)
    by x l (yes q) = rw q (get_or-set_same t i r 0 h ∙ e ∙ ap (less_one own) (G.left i (omega arith)))
    by x l (no q) = get_or-set_other t i x r 0 q ∙ G.done x (omega (arith, q))

-- ---- the lowest, where a number that does not pass is gone

module _ (i : ℕ) (p q : ℕ → Bool) (same : (j : ℕ) → q j ≡ p (pick (ltb j i) j (suc j))) (none : p i ≡ false) where
  q_low : (j : ℕ) → j < i → q j ≡ p j
  q_low j h = same j ∙ ap p (rw (lt-ltb j i h))

  q_high : (j : ℕ) → i ≤ j → q j ≡ p (suc j)
  q_high j h = same j ∙ ap p (rw (le-ltb j i h))

  -- from behind it on
  drop_high : (a m : ℕ) → i ≤ a → lowest q a m ≡ less_one (suc i) (lowest p (suc a) m)
  unfolding lowest
  drop_high a zero h = less_other (suc i) 0 (omega arith)
  drop_high a (suc m) h = by (p (suc a)) refl (drop_high (suc a) m (omega arith))
    where
      by : (b : Bool) → p (suc a) ≡ b → lowest q (suc a) m ≡ less_one (suc i) (lowest p (suc (suc a)) m) → pick (q a) (suc a) (lowest q (suc a) m) ≡ less_one (suc i) (pick (p (suc a)) (suc (suc a)) (lowest p (suc (suc a)) m))
      by true e ih = let z : suc a ≡ suc (suc a) - 1 = omega arith in rw (q_high a h, e) (z ∙ less_above (suc i) (suc (suc a)) (omega arith))
      by false e ih = rw (q_high a h, e) ih

  -- from before it on
  drop_by : (d a m : ℕ) → a + d ≡ i → lowest q a (d + m) ≡ less_one (suc i) (lowest p a (d + suc m))
  unfolding lowest
  drop_by zero a m e =
      let f : a ≡ i = omega arith in
      let n : p a ≡ false = ap p f ∙ none in
      let y : 0 + m ≡ m = omega arith in
      let z : 0 + suc m ≡ suc m = omega arith in
      rw (y, z, n) (drop_high a m (omega arith))
  drop_by (suc d) a m e =
      let y : suc d + m ≡ suc (d + m) = omega arith in
      let z : suc d + suc m ≡ suc (d + suc m) = omega arith in
      rw (y, z) (by (p a) refl (drop_by d (suc a) m (omega arith)))
    where
      by : (b : Bool) → p a ≡ b → lowest q (suc a) (d + m) ≡ less_one (suc i) (lowest p (suc a) (d + suc m)) → pick (q a) (suc a) (lowest q (suc a) (d + m)) ≡ less_one (suc i) (pick (p a) (suc a) (lowest p (suc a) (d + suc m)))
      by true f ih = rw (q_low a (omega arith), f) (less_other (suc i) (suc a) (omega arith))
      by false f ih = rw (q_low a (omega arith), f) ih

  drop_low : (a n : ℕ) → a ≤ i → i < n → lowest q a (n - 1 - a) ≡ less_one (suc i) (lowest p a (n - a))
  drop_low a n h l =
      let e : n - 1 - a ≡ (i - a) + (n - suc i) = omega arith in
      let f : n - a ≡ (i - a) + suc (n - suc i) = omega arith in
      rw (e, f) (drop_by (i - a) a (n - suc i) (omega arith))

-- ---- the table of the cells that are left

module _ (i P k R n : ℕ) (corner : ℕ → ℕ → ℕ) (few : i < n) (most : n ≤ R) (below : (c j : ℕ) → c < k → j < n → corner c j < P) where
  abbrev gone : ℕ → ℕ → ℕ
  gone = corner_gone P i corner

  abbrev dropped : ℕ → ℕ → ℕ
  dropped = corner_dropped i corner

  gone_else : (c j : ℕ) → (j ≡ i → ⊥) → gone c j ≡ corner c j
  unfolding corner_gone
  gone_else c j ne = rw (ne_eqb j i ne)

  gone_here : (c : ℕ) → gone c i ≡ P
  unfolding corner_gone
  gone_here c = rw (eq-eqb i i refl)

  dropped_low : (c j : ℕ) → j < i → dropped c j ≡ corner c j
  unfolding corner_dropped
  dropped_low c j h = rw (lt-ltb j i h)

  dropped_high : (c j : ℕ) → i ≤ j → dropped c j ≡ corner c (suc j)
  unfolding corner_dropped
  dropped_high c j h = rw (le-ltb j i h)

  -- the cells hold what they held
  held : (v j : ℕ) → holds k dropped v j ≡ holds k gone v (pick (ltb j i) j (suc j))
  unfolding holds corner_dropped
  held v j = ap (stands v) (tab_ext k _ _ (λ c h. sym (gone_else c (pick (ltb j i) j (suc j)) (by (dec_lt j i)))))
    where
      by : Dec (j < i) → pick (ltb j i) j (suc j) ≡ i → ⊥
      by (yes l) = rw (lt-ltb j i l) (λ e. omega arith)
      by (no l) = rw (le-ltb j i (omega (arith, l))) (λ e. omega (arith, l))

  -- and cell i none
  held_none : (v : ℕ) → v < P → holds k gone v i ≡ false
  held_none v l = holds_none k gone i v (λ c h e. let s = gone_here c in omega arith)

  module _ (t t₁ t₂ : List ℕ) (L : LinksOf P k R n gone t) (room : P + k * R ≤ length t₁) (U : LinksRaised i P k R n t t₁) (D : NumbersLowered (suc i) t₁ t₂) where
    less : (x : ℕ) → x < P + k * R → get_or t₂ x 0 ≡ less_one (suc i) (get_or t₁ x 0)
    less x h = D.at x (omega arith)

    in_table : (c j : ℕ) → c < k → j < R → P + (c * R + j) < P + k * R
    in_table c j h l = omega (arith, col_fits c k R h)

    head : (v : ℕ) → v < P → get_or t₂ v 0 ≡ lowest (holds k dropped v) 0 (n - 1)
    unfolding first_of
    head v l =
        let y : n ≡ n - 0 = omega arith in
        let z : n - 1 - 0 ≡ n - 1 = omega arith in
        less v (omega arith)
        ∙ ap (less_one (suc i)) (U.heads v l ∙ L.heads v l ∙ ap (lowest (holds k gone v) 0) y)
        ∙ sym (drop_low i (holds k gone v) (holds k dropped v) (held v) (held_none v l) 0 n zero-le few)
        ∙ ap (lowest (holds k dropped v) 0) z

    -- a link of a cell before it
    link_low : (c j : ℕ) → c < k → j < i → get_or t₂ (P + (c * R + j)) 0 ≡ lowest (holds k dropped (dropped c j)) (suc j) (n - 1 - suc j)
    unfolding next_of
    link_low c j h l =
        let b = below c j h (omega arith) in
        less (P + (c * R + j)) (in_table c j h (omega arith))
        ∙ ap (less_one (suc i)) (U.others c j h (omega arith) (λ x y. omega arith) ∙ L.links c j h (omega arith) ∙ ap (λ (z : ℕ). lowest (holds k gone z) (suc j) (n - suc j)) (gone_else c j (λ e. omega arith)))
        ∙ sym (drop_low i (holds k gone (corner c j)) (holds k dropped (corner c j)) (held (corner c j)) (held_none (corner c j) b) (suc j) n l few)
        ∙ ap (λ (z : ℕ). lowest (holds k dropped z) (suc j) (n - 1 - suc j)) (sym (dropped_low c j l))

    -- of one behind it, which was the link of the next
    link_high : (c j : ℕ) → c < k → i ≤ j → suc j < n → get_or t₂ (P + (c * R + j)) 0 ≡ lowest (holds k dropped (dropped c j)) (suc j) (n - 1 - suc j)
    unfolding next_of
    link_high c j h l m =
        let b = below c (suc j) h m in
        let y : n - suc (suc j) ≡ n - 1 - suc j = omega arith in
        less (P + (c * R + j)) (in_table c j h (omega arith))
        ∙ ap (less_one (suc i))
        (U.raised c j h l m
        ∙ L.links c (suc j) h (omega arith)
        ∙ ap (λ (z : ℕ). lowest (holds k gone z) (suc (suc j)) (n - suc (suc j))) (gone_else c (suc j) (λ e. omega arith))
        ∙ ap (lowest (holds k gone (corner c (suc j))) (suc (suc j))) y)
        ∙ sym (drop_high i (holds k gone (corner c (suc j))) (holds k dropped (corner c (suc j))) (held (corner c (suc j))) (held_none (corner c (suc j)) b) (suc j) (n - 1 - suc j) (omega arith))
        ∙ ap (λ (z : ℕ). lowest (holds k dropped z) (suc j) (n - 1 - suc j)) (sym (dropped_high c j l))

    -- and of none
    link_end : (c j : ℕ) → c < k → j < R → n ≤ suc j → get_or t₂ (P + (c * R + j)) 0 ≡ lowest (holds k dropped (dropped c j)) (suc j) (n - 1 - suc j)
    unfolding next_of
    link_end c j h r m =
        less (P + (c * R + j)) (in_table c j h r)
        ∙ ap (less_one (suc i)) (U.others c j h r (λ x y. omega arith) ∙ L.links c j h r ∙ low_end _ (suc j) (n - suc j) (omega arith))
        ∙ sym (less_other (suc i) 0 zero-le)
        ∙ sym (low_end _ (suc j) (n - 1 - suc j) (omega arith))

    pub dropped_linked : LinksOf P k R (n - 1) (corner_dropped i corner) t₂
    unfolding first_of next_of
    dropped_linked = record { heads = head; links = λ c j h r. by c j h r (dec_lt j i) (dec_lt (suc j) n) }
      where
        by : (c j : ℕ) → c < k → j < R → Dec (j < i) → Dec (suc j < n) → get_or t₂ (P + (c * R + j)) 0 ≡ lowest (holds k dropped (dropped c j)) (suc j) (n - 1 - suc j)
        by c j h r (yes l) m = link_low c j h l
        by c j h r (no l) (yes m) = link_high c j h (omega (arith, l)) m
        by c j h r (no l) (no m) = link_end c j h r (omega (arith, m))

-- ---- as the program has it

module _ (i P k R S n : ℕ) (s t₀ : List ℕ) (I : DropRoom i P k R S n s t₀) where
  pub drop_room : (lt : ℕ) → lt ≡ length t₀ → RaiseRoom i P k R n lt
  drop_room lt e = record { here = I.here; cells = I.room.cells; table = rw e I.room.table }

  pub drop_done : (t t₁ t₂ : List ℕ) → length t ≡ length t₀ → length t₁ ≡ length t → LinksOf P k R n (corner_gone P i (cell 0 S s)) t → LinksRaised i P k R n t t₁ → NumbersLowered (i + 1) t₁ t₂
      → LinksOf P k R (n - 1) (corner_dropped i (cell 0 S s)) t₂
  drop_done t t₁ t₂ e f L U D =
      dropped_linked i P k R n (cell 0 S s) I.here I.room.cells I.apart.below t t₁ t₂ L (rw (f, e) I.room.table) U
      (subst (λ (x : ℕ). NumbersLowered x t₁ t₂) (add-one i) D)
