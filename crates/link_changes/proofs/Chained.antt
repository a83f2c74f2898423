-- Laws of chains: the places that lead to the cells that hold a particle, and a table in which one chain is changed at one cell. Assumes nothing.
use Prim.Native.Nat.{ℕ, suc, ◌+◌, ◌*◌, ◌≤◌, ◌<◌, ◌-◌}
use native.Mathlib.Omega.{arith}
use native.Mathlib.Decide.{ℕ_discrete, dec_lt}
use borrow.Author.Tests.{eq-eqb, ne_eqb}
use mathlib.Core.Path.{◌≡◌, refl, sym, ap, ◌∙◌, subst}
use mathlib.Core.Bool.{Bool, true, false, ◌&&◌}
use mathlib.Core.Logic.{inl, inr}
use mathlib.Core.List.{List}
use lib.ListN.{get_or}
use lib.Dec.{eqb}
use Rattle.lists.specs.Lists.{pick}
use Rattle.columns.proofs.Cells.{col_fits, apart, apart_col}
use Rattle.links.specs.Links.{lowest, holds, first_of, next_of, LinksOf}
use Rattle.link_changes.specs.Changes.{corner_moved, LeadsTo, SlotOf, CellPut, CellTaken}
use Rattle.links.specs.Rooms.{CornersApart}
use Rattle.links.proofs.Lowest.{false_true, bool_both, low_here, low_none, low_skip, low_ext, low_early, holds_made, holds_get, holds_none, holds_ext}

-- ---- corners of fewer cells, or the same

pub apart_fewer : (P k m n : ℕ) (corner : ℕ → ℕ → ℕ) → m ≤ n → CornersApart P k n corner → CornersApart P k m corner
apart_fewer P k m n corner h A = record { below = λ c i x y. A.below c i x (omega arith); apart = λ b c i x y z. A.apart b c i x y (omega arith) }

pub apart_ext : (P k n : ℕ) (f g : ℕ → ℕ → ℕ) → ((c i : ℕ) → c < k → i < n → f c i ≡ g c i) → CornersApart P k n f → CornersApart P k n g
apart_ext P k n f g h A =
    record {
      below = λ c i x y. subst (λ (z : ℕ). z < P) (h c i x y) (A.below c i x y);
      apart = λ b c i x y z q. A.apart b c i x y z (h b i (omega arith) z ∙ q ∙ sym (h c i y z));
    }

module _ (P k R : ℕ) where
  -- ---- places that lead to cells

  module _ (f : ℕ → ℕ → ℕ) where
    -- what the table has there
    pub leads_read : (n : ℕ) (t : List ℕ) → LinksOf P k R n f t → (v x a : ℕ) → LeadsTo P k R f v x a → get_or t x 0 ≡ lowest (holds k f v) a (n - a)
    unfolding first_of next_of
    leads_read n t L v x a (inl H) =
        let e : n ≡ n - 0 = omega arith in
        rw (H.at, H.first) (L.heads v H.low ∙ ap (lowest (holds k f v) 0) e)
    leads_read n t L v x a (inr K) = rw (K.at, K.behind) (L.links K.column K.row K.among K.here ∙ ap (λ (u : ℕ). lowest (holds k f u) (suc K.row) (n - suc K.row)) K.is)

    -- and a table that has it at all of them
    pub leads_make : (n : ℕ) (t : List ℕ) → ((v x a : ℕ) → LeadsTo P k R f v x a → get_or t x 0 ≡ lowest (holds k f v) a (n - a)) → LinksOf P k R n f t
    unfolding first_of next_of
    leads_make n t h =
        record {
          heads = λ v l. let e : n - 0 ≡ n = omega arith in h v v 0 (inl (record { low = l; at = refl; first = refl })) ∙ ap (lowest (holds k f v) 0) e;
          links = λ c i l m. h (f c i) (P + (c * R + i)) (suc i) (inr (record { column = c; row = i; among = l; here = m; is = refl; at = refl; behind = refl }));
        }

    -- a place leads to the cells of one particle, from one cell on
    pub leads_one : (v x a w y b : ℕ) → LeadsTo P k R f v x a → LeadsTo P k R f w y b → x ≡ y → (v ≡ w) × (a ≡ b)
    leads_one v x a w y b (inl H) (inl I) e = (sym H.at ∙ e ∙ I.at, H.first ∙ sym I.first)
    leads_one v x a w y b (inl H) (inr K) e = absurd (omega (arith, H.at, H.low, K.at))
    leads_one v x a w y b (inr K) (inl H) e = absurd (omega (arith, H.at, H.low, K.at))
    leads_one v x a w y b (inr K) (inr I) e = by (ℕ_discrete K.row I.row) (ℕ_discrete K.column I.column)
      where
        s : K.column * R + K.row ≡ I.column * R + I.row
        s = omega (arith, K.at, I.at)

        by : Dec (K.row ≡ I.row) → Dec (K.column ≡ I.column) → (v ≡ w) × (a ≡ b)
        by (yes p) (yes q) = (sym K.is ∙ ap (λ (z : ℕ). f z K.row) q ∙ ap (f I.column) p ∙ I.is, K.behind ∙ ap suc p ∙ sym I.behind)
        by (yes p) (no q) = absurd (apart_col K.column I.column R K.row I.row K.here I.here q s)
        by (no p) q = absurd (apart K.column I.column R K.row I.row K.here I.here p s)

    -- and one place leads to them from there, where cells have no corner twice
    pub leads_place : (i v x y a : ℕ) → CornersApart P k i f → a ≤ i → LeadsTo P k R f v x a → LeadsTo P k R f v y a → x ≡ y
    leads_place i v x y a A h (inl H) (inl I) = H.at ∙ sym I.at
    leads_place i v x y a A h (inl H) (inr K) = absurd (omega (arith, H.first, K.behind))
    leads_place i v x y a A h (inr K) (inl H) = absurd (omega (arith, H.first, K.behind))
    leads_place i v x y a A h (inr K) (inr I) =
        let e : I.row ≡ K.row = omega (arith, K.behind, I.behind) in
        let l : K.row < i = omega (arith, K.behind) in
        let q : f I.column K.row ≡ v = ap (f I.column) (sym e) ∙ I.is in
        let lo : K.column < I.column → ⊥ = λ z. A.apart K.column I.column K.row z I.among l (K.is ∙ sym q) in
        let hi : I.column < K.column → ⊥ = λ z. A.apart I.column K.column K.row z K.among l (q ∙ sym K.is) in
        let s : K.column ≡ I.column = omega (arith, lo, hi) in
        K.at ∙ ap (λ (z : ℕ). P + (z * R + K.row)) s ∙ ap (λ (z : ℕ). P + (I.column * R + z)) (sym e) ∙ sym I.at

    -- whose cells they lead to has a head, where the corners before do
    pub leads_low : (i v x a : ℕ) → CornersApart P k i f → a ≤ i → LeadsTo P k R f v x a → v < P
    leads_low i v x a A h (inl H) = H.low
    leads_low i v x a A h (inr K) = subst (λ (z : ℕ). z < P) K.is (A.below K.column K.row K.among (omega (arith, K.behind)))

    -- the cell before holds the particle
    pub leads_held : (v x a : ℕ) → LeadsTo P k R f v x a → 0 < a → holds k f v (a - 1) ≡ true
    leads_held v x a (inl H) h = absurd (omega (arith, H.first))
    leads_held v x a (inr K) h = let e : a - 1 ≡ K.row = omega (arith, K.behind) in rw e (holds_made k f K.column K.row v K.among K.is)

    -- the place is in the table
    pub leads_fits : (v x a : ℕ) → LeadsTo P k R f v x a → x < P + k * R
    leads_fits v x a (inl H) = omega (arith, H.at, H.low)
    leads_fits v x a (inr K) = omega (arith, K.at, K.here, col_fits K.column k R K.among)

    -- corners that are the same before i lead to the same
    pub leads_ext : (g : ℕ → ℕ → ℕ) (i v x a : ℕ) → ((c j : ℕ) → c < k → j < i → f c j ≡ g c j) → a ≤ i → LeadsTo P k R f v x a → LeadsTo P k R g v x a
    leads_ext g i v x a h l (inl H) = inl H
    leads_ext g i v x a h l (inr K) =
        inr (record { column = K.column; row = K.row; among = K.among; here = K.here; is = sym (h K.column K.row K.among (omega (arith, K.behind))) ∙ K.is; at = K.at; behind = K.behind })

    pub slot_ext : (g : ℕ → ℕ → ℕ) (i v r : ℕ) → ((c j : ℕ) → c < k → j < i → f c j ≡ g c j) → SlotOf P k R v i f r → SlotOf P k R v i g r
    slot_ext g i v r h O =
        record {
          from = O.from;
          leads = leads_ext g i v r O.from h O.below O.leads;
          below = O.below;
          none = λ j x y. sym (holds_ext k f g v j (λ c z. h c j z y)) ∙ O.none j x y;
        }

  -- ---- corner c of cell i changed, and with it the chain of v at cell i

  module _ (f g : ℕ → ℕ → ℕ) (n i c v r : ℕ) (t t' : List ℕ) (L : LinksOf P k R n f t) (few : i < n) (most : n ≤ R) (A : CornersApart P k i f)
      (rows : (b j : ℕ) → (j ≡ i → ⊥) → f b j ≡ g b j) (columns : (b : ℕ) → (b ≡ c → ⊥) → f b i ≡ g b i) (O : SlotOf P k R v i f r)
      (slot : get_or t' r 0 ≡ lowest (holds k g v) i (n - i)) (link : get_or t' (P + (c * R + i)) 0 ≡ lowest (holds k g (g c i)) (suc i) (n - suc i))
      (others : (x : ℕ) → (x ≡ r → ⊥) → (x ≡ P + (c * R + i) → ⊥) → get_or t' x 0 ≡ get_or t x 0)
      (keep : (u : ℕ) → u < P → (u ≡ v → ⊥) → holds k f u i ≡ holds k g u i) where
    -- other cells hold what they held
    held : (u j : ℕ) → (j ≡ i → ⊥) → holds k f u j ≡ holds k g u j
    held u j ne = holds_ext k f g u j (λ b h. rows b j ne)

    -- from behind cell i on the lowest is the same
    late : (u a : ℕ) → i < a → lowest (holds k f u) a (n - a) ≡ lowest (holds k g u) a (n - a)
    late u a h = low_ext _ _ a (n - a) (λ j x y. held u j (λ e. omega arith))

    -- a place of the chain of v
    chain : (x a : ℕ) → LeadsTo P k R f v x a → (x ≡ P + (c * R + i) → ⊥) → get_or t' x 0 ≡ lowest (holds k g v) a (n - a)
    chain x a D nq = by (ℕ_discrete a O.from) (dec_lt a O.from) (dec_lt i a)
      where
        by : Dec (a ≡ O.from) → Dec (a < O.from) → Dec (i < a) → get_or t' x 0 ≡ lowest (holds k g v) a (n - a)
        by (yes e) d m =
            let l : a ≤ i = omega (arith, O.below) in
            let D' : LeadsTo P k R f v r a = subst (LeadsTo P k R f v r) (sym e) O.leads in
            ap (λ (z : ℕ). get_or t' z 0) (leads_place f i v x r a A l D D')
            ∙ slot
            ∙ sym (low_skip (holds k g v) a i n l (omega arith) (λ j u w. sym (held v j (λ q. omega arith)) ∙ O.none j (omega (arith, e)) w))
        by (no e) (yes d) m =
            let b : O.from ≤ i = O.below in
            let p : holds k f v (O.from - 1) ≡ true = leads_held f v r O.from O.leads (omega arith) in
            others x (λ q. e (leads_one f v x a v r O.from D O.leads q).1) nq
            ∙ leads_read f n t L v x a D
            ∙ low_early (holds k f v) (holds k g v) a (n - a) (O.from - 1) (omega arith) (omega arith) p (λ j u w. held v j (λ q. omega arith))
        by (no e) (no d) (yes m) = others x (λ q. e (leads_one f v x a v r O.from D O.leads q).1) nq ∙ leads_read f n t L v x a D ∙ late v a m
        by (no e) (no d) (no m) =
            let p : holds k f v (a - 1) ≡ true = leads_held f v x a D (omega (arith, e, d)) in
            absurd (false_true (O.none (a - 1) (omega (arith, e, d)) (omega (arith, e, d, m))) p)

    -- a place of another chain
    other : (u x a : ℕ) → LeadsTo P k R f u x a → (u ≡ v → ⊥) → (x ≡ P + (c * R + i) → ⊥) → get_or t' x 0 ≡ lowest (holds k g u) a (n - a)
    other u x a D ne nq = others x (λ q. ne (leads_one f u x a v r O.from D O.leads q).0) nq ∙ leads_read f n t L u x a D ∙ by (dec_lt i a)
      where
        same : a ≤ i → (j : ℕ) → Dec (j ≡ i) → holds k f u j ≡ holds k g u j
        same l j (yes e) = rw e (keep u (leads_low f i u x a A l D) ne)
        same l j (no e) = held u j e

        by : Dec (i < a) → lowest (holds k f u) a (n - a) ≡ lowest (holds k g u) a (n - a)
        by (yes m) = late u a m
        by (no m) = low_ext _ _ a (n - a) (λ j x y. same (omega (arith, m)) j (ℕ_discrete j i))

    -- a place of any chain
    each : (u x a : ℕ) → LeadsTo P k R f u x a → (x ≡ P + (c * R + i) → ⊥) → get_or t' x 0 ≡ lowest (holds k g u) a (n - a)
    each u x a D nq = by (ℕ_discrete u v)
      where
        by : Dec (u ≡ v) → get_or t' x 0 ≡ lowest (holds k g u) a (n - a)
        by (yes e) = rw e (chain x a (subst (λ (z : ℕ). LeadsTo P k R f z x a) e D) nq)
        by (no e) = other u x a D e nq

    -- the table of the corners that are changed so
    pub relinked : LinksOf P k R n g t'
    relinked = leads_make g n t' by
      where
        at : (b j : ℕ) → b < k → j < R → Dec (j ≡ i) → Dec (b ≡ c) → get_or t' (P + (b * R + j)) 0 ≡ lowest (holds k g (g b j)) (suc j) (n - suc j)
        at b j hb hj (yes e) (yes q) = rw (e, q) link
        at b j hb hj (no e) d =
            rw (← rows b j e)
            (each (f b j) (P + (b * R + j)) (suc j) (inr (record { column = b; row = j; among = hb; here = hj; is = refl; at = refl; behind = refl })) (λ z. apart b c R j i hj (omega arith) e (omega arith)))
        at b j hb hj (yes e) (no q) =
            rw (e, ← columns b q)
            (each (f b i) (P + (b * R + i)) (suc i) (inr (record { column = b; row = i; among = hb; here = omega arith; is = refl; at = refl; behind = refl })) (λ z. apart_col b c R i i (omega arith) (omega arith) q (omega arith)))

        by : (u x a : ℕ) → LeadsTo P k R g u x a → get_or t' x 0 ≡ lowest (holds k g u) a (n - a)
        by u x a (inl H) = each u x a (inl H) (λ e. omega (arith, H.at, H.low))
        by u x a (inr K) =
            rw (K.at, K.behind)
            (at K.column K.row K.among K.here (ℕ_discrete K.row i) (ℕ_discrete K.column c) ∙ ap (λ (z : ℕ). lowest (holds k g z) (suc K.row) (n - suc K.row)) K.is)

  -- ---- what is changed

  module _ (i c w : ℕ) (f : ℕ → ℕ → ℕ) where
    pub moved_here : corner_moved i c w f c i ≡ w
    unfolding corner_moved
    moved_here = rw (eq-eqb c c refl, eq-eqb i i refl)

    pub moved_row : (b j : ℕ) → (j ≡ i → ⊥) → f b j ≡ corner_moved i c w f b j
    unfolding corner_moved
    moved_row b j ne = rw (ne_eqb j i ne) (by (eqb b c))
      where
        by : (s : Bool) → f b j ≡ pick (s && false) w (f b j)
        by true = refl
        by false = refl

    pub moved_column : (b : ℕ) → (b ≡ c → ⊥) → f b i ≡ corner_moved i c w f b i
    unfolding corner_moved
    moved_column b ne = rw (ne_eqb b c ne)

    -- any other particle is held by cell i as before
    pub moved_keep : (u : ℕ) → (f c i ≡ u → ⊥) → (w ≡ u → ⊥) → holds k f u i ≡ holds k (corner_moved i c w f) u i
    moved_keep u x y = bool_both _ _ (λ e. let s = holds_get k f i u e in fore s.0 s.1.0 s.1.1 (ℕ_discrete s.0 c)) (λ e. let s = holds_get k (corner_moved i c w f) i u e in back s.0 s.1.0 s.1.1 (ℕ_discrete s.0 c))
      where
        fore : (b : ℕ) → b < k → f b i ≡ u → Dec (b ≡ c) → holds k (corner_moved i c w f) u i ≡ true
        fore b h e (yes q) = absurd (x (ap (λ (z : ℕ). f z i) (sym q) ∙ e))
        fore b h e (no q) = holds_made k (corner_moved i c w f) b i u h (sym (moved_column b q) ∙ e)

        back : (b : ℕ) → b < k → corner_moved i c w f b i ≡ u → Dec (b ≡ c) → holds k f u i ≡ true
        back b h e (yes q) = absurd (y (sym moved_here ∙ ap (λ (z : ℕ). corner_moved i c w f z i) (sym q) ∙ e))
        back b h e (no q) = holds_made k f b i u h (moved_column b q ∙ e)

  -- ---- a cell put into a chain, whose corner c is no particle

  module _ (f corner : ℕ → ℕ → ℕ) (n i c w : ℕ) (t t' : List ℕ) (L : LinksOf P k R n f t) (few : i < n) (most : n ≤ R) (hc : c < k) (low : w < P) (A : CornersApart P k i f)
      (same : (b j : ℕ) → b < k → j < i → corner b j ≡ f b j) (blank : P ≤ f c i) (fresh : holds k f w i ≡ false) (C : CellPut P k R w i c corner t t') where
    abbrev put : ℕ → ℕ → ℕ
    put = corner_moved i c w f

    abbrev O : SlotOf P k R w i f C.slot
    O = slot_ext corner f i w C.slot same C.is

    put_slot : get_or t' C.slot 0 ≡ lowest (holds k put w) i (n - i)
    put_slot = C.chained ∙ sym (low_here (holds k put w) i (n - i) (omega arith) (holds_made k put c i w hc (moved_here i c w f)))

    put_link : get_or t' (P + (c * R + i)) 0 ≡ lowest (holds k put (put c i)) (suc i) (n - suc i)
    put_link =
        C.link
        ∙ leads_read f n t L w C.slot O.from O.leads
        ∙ low_skip (holds k f w) O.from (suc i) n (omega (arith, O.below)) few (λ j x y. by j x y (ℕ_discrete j i))
        ∙ low_ext _ _ (suc i) (n - suc i) (λ j x y. holds_ext k f put w j (λ b h. moved_row i c w f b j (λ e. omega arith)))
        ∙ ap (λ (z : ℕ). lowest (holds k put z) (suc i) (n - suc i)) (sym (moved_here i c w f))
      where
        by : (j : ℕ) → O.from ≤ j → j < suc i → Dec (j ≡ i) → holds k f w j ≡ false
        by j x y (yes e) = rw e fresh
        by j x y (no e) = O.none j x (omega (arith, e))

    pub put_linked : LinksOf P k R n (corner_moved i c w f) t'
    put_linked =
        relinked f put n i c w C.slot t t' L few most A (moved_row i c w f) (moved_column i c w f) O put_slot put_link C.others
        (λ u l ne. moved_keep i c w f u (λ e. omega arith) (λ e. ne (sym e)))

  -- ---- a cell taken out of the chain of its corner c, which is no other of its corners

  module _ (f corner : ℕ → ℕ → ℕ) (n i c v : ℕ) (t t' : List ℕ) (L : LinksOf P k R n f t) (few : i < n) (most : n ≤ R) (hc : c < k) (low : v < P) (A : CornersApart P k i f)
      (same : (b j : ℕ) → b < k → j < i → corner b j ≡ f b j) (is : f c i ≡ v) (only : (b : ℕ) → b < k → (b ≡ c → ⊥) → f b i ≡ v → ⊥)
      (above : (b j : ℕ) → b < k → i < j → j < n → f b j < P) (C : CellTaken P k R v i c corner t t') where
    abbrev taken : ℕ → ℕ → ℕ
    taken = corner_moved i c P f

    -- cell i does not hold v then
    gone : holds k taken v i ≡ false
    gone = holds_none k taken i v (λ b h e. by b h e (ℕ_discrete b c))
      where
        by : (b : ℕ) → b < k → taken b i ≡ v → Dec (b ≡ c) → ⊥
        by b h e (yes q) = let s : P ≡ v = sym (moved_here i c P f) ∙ ap (λ (z : ℕ). taken z i) (sym q) ∙ e in omega arith
        by b h e (no q) = only b h q (moved_column i c P f b q ∙ e)

    -- nor does any behind it hold what is no particle
    no_one : (j : ℕ) → i < j → j < n → holds k taken P j ≡ false
    no_one j x y = sym (holds_ext k f taken P j (λ b h. moved_row i c P f b j (λ e. omega arith))) ∙ holds_none k f j P (λ b h e. let l = above b j h x y in omega arith)

    take_slot : get_or t' C.slot 0 ≡ lowest (holds k taken v) i (n - i)
    take_slot =
        C.chained
        ∙ leads_read f n t L v (P + (c * R + i)) (suc i) (inr (record { column = c; row = i; among = hc; here = omega arith; is = is; at = refl; behind = refl }))
        ∙ low_ext _ _ (suc i) (n - suc i) (λ j x y. holds_ext k f taken v j (λ b h. moved_row i c P f b j (λ e. omega arith)))
        ∙ sym (low_skip (holds k taken v) i (suc i) n (omega arith) few (λ j x y. let e : j ≡ i = omega arith in rw e gone))

    take_link : get_or t' (P + (c * R + i)) 0 ≡ lowest (holds k taken (taken c i)) (suc i) (n - suc i)
    take_link = C.link ∙ sym (low_none (holds k taken P) (suc i) (n - suc i) (λ j x y. no_one j x (omega arith))) ∙ ap (λ (z : ℕ). lowest (holds k taken z) (suc i) (n - suc i)) (sym (moved_here i c P f))

    pub take_linked : LinksOf P k R n (corner_moved i c P f) t'
    take_linked =
        relinked f taken n i c v C.slot t t' L few most A (moved_row i c P f) (moved_column i c P f) (slot_ext corner f i v C.slot same C.is) take_slot take_link C.others
        (λ u l ne. moved_keep i c P f u (λ e. ne (sym e ∙ is)) (λ e. omega arith))
