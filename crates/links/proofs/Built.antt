-- Laws of the build: one cell linked at each of its corners, and the cells linked from the last to the first. Assumes nothing.
use Prim.Native.Nat.{ℕ, suc, ◌+◌, ◌*◌, ◌≤◌, ◌<◌, zero-le, ◌-◌}
use native.Mathlib.Nat.{not-suc-le-zero, zero-mul}
use native.Mathlib.Numerals.{add-one}
use native.Mathlib.Omega.{arith}
use native.Mathlib.Decide.{ℕ_discrete, dec_lt}
use borrow.Author.Tests.{eq-eqb, ne_eqb}
use mathlib.Core.Path.{◌≡◌, refl, sym, ap, ◌∙◌, subst}
use mathlib.Core.Bool.{Bool, true, false, ◌||◌}
use mathlib.Core.List.{List, [], ◌∷◌}
use lib.ListN.{length, get_or, set, length-set, get_or-eq_default}
use lib.Seq.{get_or-set_same, get_or-set_other}
use Rattle.lists.specs.Lists.{pick, stands, tab}
use Rattle.lists.proofs.Sifts.{stands_append, stands_get}
use Rattle.lists.proofs.Steps.{tab_step}
use Rattle.lists.proofs.Stores.{tab_length, tab_at}
use Rattle.columns.specs.Block.{cell}
use Rattle.columns.proofs.Cells.{next_col, col_fits, apart, apart_col}
use Rattle.links.specs.Links.{lowest, holds, first_of, next_of, LinksOf}
use Rattle.links.specs.Rooms.{BuildRoom, CornersApart, RowLent, CellLinked, Cleared}
use Rattle.links.proofs.Lowest.{low_end, low_step}
use Rattle.lists.proofs.Truths.{not_true}

-- ---- one cell: after c of its corners

pub record Linking (P k R i : ℕ) (corner : ℕ → ℕ → ℕ) (t₀ t : List ℕ) (c o : ℕ) : Type 0 where
  pub at : o ≡ c * R
  pub below : c ≤ k
  pub long : length t ≡ length t₀
  pub heads : (v : ℕ) → v < P → get_or t v 0 ≡ pick (stands v (tab c (λ b. corner b i))) (suc i) (get_or t₀ v 0)
  pub links : (b : ℕ) → b < c → get_or t (P + (b * R + i)) 0 ≡ get_or t₀ (corner b i) 0
  pub others : (b j : ℕ) → b < k → j < R → (j ≡ i → ⊥) → get_or t (P + (b * R + j)) 0 ≡ get_or t₀ (P + (b * R + j)) 0

module _ (P k R i : ℕ) (corner : ℕ → ℕ → ℕ) where
  pub linking_start : (t : List ℕ) → Linking P k R i corner t t 0 0
  unfolding tab
  linking_start t = record { at = sym (zero-mul R); below = zero-le; long = refl; heads = λ v h. refl; links = λ b h. absurd (not-suc-le-zero h); others = λ b j h l ne. refl }

  pub linking_done : (t₀ t : List ℕ) (c o : ℕ) → Linking P k R i corner t₀ t c o → k ≤ c → CellLinked P k R i corner t₀ t
  unfolding holds
  linking_done t₀ t c o r h =
      let e : c ≡ k = omega (arith, r.below) in
      record { heads = λ v l. subst (λ (m : ℕ). get_or t v 0 ≡ pick (stands v (tab m (λ b. corner b i))) (suc i) (get_or t₀ v 0)) e (r.heads v l); links = λ b l. r.links b (omega arith); others = r.others }

  module _ (t₀ t : List ℕ) (c o : ℕ) (r : Linking P k R i corner t₀ t c o) (h : c < k) (here : i < R) (room : P + k * R ≤ length t₀)
      (below : (b : ℕ) → b < k → corner b i < P) (twice : (a b : ℕ) → a < b → b < k → corner a i ≡ corner b i → ⊥) where
    -- the link's place is in the table
    pub linking_fits : P + (o + i) < length t
    linking_fits = omega (arith, col_fits c k R h, r.at, r.long)

    abbrev w : ℕ
    w = corner c i

    -- the corner was not among those before it
    fresh : stands w (tab c (λ b. corner b i)) ≡ false
    fresh =
        not_true _
        (λ e.
        let g = stands_get w (tab c (λ b. corner b i)) e in
        let l : length (tab c (λ b. corner b i)) ≡ c = tab_length c _ in
        let s : g.0 < c = omega (arith, g.1.0) in
        twice g.0 c s h (sym (tab_at c (λ b. corner b i) g.0 0 s) ∙ g.1.1))

    -- what stood first there
    was : get_or t w 0 ≡ get_or t₀ w 0
    was = r.heads w (below c h) ∙ ap (λ (b : Bool). pick b (suc i) (get_or t₀ w 0)) fresh

    one_more : (v : ℕ) → stands v (tab (c + 1) (λ b. corner b i)) ≡ stands v (tab c (λ b. corner b i)) || stands v (w ∷ [])
    one_more v = rw (tab_step (λ b. corner b i) c, stands_append)

    -- the link and the head stored
    pub linking_more : Linking P k R i corner t₀ (set (set t (P + (o + i)) (get_or t w 0)) w (suc i)) (c + 1) (o + R)
    linking_more =
        record {
          at = ap (λ (x : ℕ). x + R) r.at ∙ sym (next_col c R);
          below = omega arith;
          long = length-set (set t (P + (o + i)) (get_or t w 0)) w (suc i) ∙ length-set t (P + (o + i)) (get_or t w 0) ∙ r.long;
          heads = λ v l. head v l (ℕ_discrete v w);
          links = λ b l. link b l (ℕ_discrete b c);
          others = λ b j hb hj ne. behind b j (omega (arith, below c h)) ∙ get_or-set_other t (P + (o + i)) (P + (b * R + j)) (get_or t w 0) 0 (λ q. apart b c R j i hj here ne (omega (arith, r.at))) ∙ r.others b j hb hj ne;
        }
      where
        behind : (b j : ℕ) → w < P → get_or (set (set t (P + (o + i)) (get_or t w 0)) w (suc i)) (P + (b * R + j)) 0 ≡ get_or (set t (P + (o + i)) (get_or t w 0)) (P + (b * R + j)) 0
        behind b j l = get_or-set_other (set t (P + (o + i)) (get_or t w 0)) w (P + (b * R + j)) (suc i) 0 (λ q. omega arith)

        head : (v : ℕ) → v < P → Dec (v ≡ w) → get_or (set (set t (P + (o + i)) (get_or t w 0)) w (suc i)) v 0 ≡ pick (stands v (tab (c + 1) (λ b. corner b i))) (suc i) (get_or t₀ v 0)
        head v l (yes q) =
            rw (q, one_more w, fresh, eq-eqb w w refl)
            (get_or-set_same (set t (P + (o + i)) (get_or t w 0)) w (suc i) 0 (rw (length-set t (P + (o + i)) (get_or t w 0)) (omega (arith, r.long, below c h))))
        head v l (no q) =
            rw (one_more v, ne_eqb w v (λ e. q (sym e)))
            (get_or-set_other (set t (P + (o + i)) (get_or t w 0)) w v (suc i) 0 q ∙ get_or-set_other t (P + (o + i)) v (get_or t w 0) 0 (λ e. omega arith) ∙ r.heads v l ∙ side (stands v (tab c (λ b. corner b i))))
          where
            side : (s : Bool) → pick s (suc i) (get_or t₀ v 0) ≡ pick (s || false) (suc i) (get_or t₀ v 0)
            side true = refl
            side false = refl

        link : (b : ℕ) → b < c + 1 → Dec (b ≡ c) → get_or (set (set t (P + (o + i)) (get_or t w 0)) w (suc i)) (P + (b * R + i)) 0 ≡ get_or t₀ (corner b i) 0
        link b l (yes q) =
            rw q
            (behind c i (below c h)
            ∙ ap (λ (x : ℕ). get_or (set t (P + (o + i)) (get_or t w 0)) (P + (x + i)) 0) (sym r.at)
            ∙ get_or-set_same t (P + (o + i)) (get_or t w 0) 0 linking_fits
            ∙ was)
        link b l (no q) =
            behind b i (below c h)
            ∙ get_or-set_other t (P + (o + i)) (P + (b * R + i)) (get_or t w 0) 0 (λ e. apart_col b c R i i here here q (omega (arith, r.at)))
            ∙ r.links b (omega (arith, q))

-- ---- all cells: from the last down to cell i

pub record LinkedFrom (P k R n : ℕ) (corner : ℕ → ℕ → ℕ) (t : List ℕ) (i : ℕ) : Type 0 where
  pub heads : (v : ℕ) → v < P → get_or t v 0 ≡ lowest (holds k corner v) i (n - i)
  pub links : (c j : ℕ) → c < k → i ≤ j → j < R → get_or t (P + (c * R + j)) 0 ≡ next_of k n corner (corner c j) j

module _ (P k R n : ℕ) (corner : ℕ → ℕ → ℕ) where
  -- an empty table links no cell
  pub linked_start : (t : List ℕ) → ((j : ℕ) → get_or t j 0 ≡ 0) → LinkedFrom P k R n corner t n
  unfolding next_of
  linked_start t z = record { heads = λ v l. z v ∙ sym (low_end _ n (n - n) (omega arith)); links = λ c j l m x. z _ ∙ sym (low_end _ (suc j) (n - suc j) (omega arith)) }

  -- one cell more
  pub linked_more : (t t' : List ℕ) (i : ℕ) → i < n → n ≤ R → CornersApart P k n corner → LinkedFrom P k R n corner t (suc i) → CellLinked P k R i corner t t' → LinkedFrom P k R n corner t' i
  unfolding next_of
  linked_more t t' i l m A r s =
      record {
        heads = λ v h. s.heads v h ∙ ap (pick (holds k corner v i) (suc i)) (r.heads v h) ∙ sym (low_step _ i n l);
        links = λ c j hc hi hj. by c j hc hi hj (ℕ_discrete j i);
      }
    where
      by : (c j : ℕ) → c < k → i ≤ j → j < R → Dec (j ≡ i) → get_or t' (P + (c * R + j)) 0 ≡ lowest (holds k corner (corner c j)) (suc j) (n - suc j)
      by c j hc hi hj (yes q) = rw q (s.links c hc ∙ r.heads (corner c i) (A.below c i hc l))
      by c j hc hi hj (no q) = s.others c j hc hj q ∙ r.links c j hc (omega (arith, q)) hj

  -- after the first cell
  pub linked_done : (t : List ℕ) → LinkedFrom P k R n corner t 0 → LinksOf P k R n corner t
  unfolding first_of
  linked_done t r = record { heads = λ v l. let e : n - 0 ≡ n = omega arith in r.heads v l ∙ ap (lowest (holds k corner v) 0) e; links = λ c i l m. r.links c i l zero-le m }

-- ---- as the program has them

-- the invariant: the place of the column in the block besides
pub record LinkingIn (P k R S i : ℕ) (corner : ℕ → ℕ → ℕ) (t₀ t : List ℕ) (c o l : ℕ) : Type 0 where
  pub linking : Linking P k R i corner t₀ t c l
  pub row : o ≡ c * S

pub link_start : (P k R S i : ℕ) (corner : ℕ → ℕ → ℕ) (t : List ℕ) → LinkingIn P k R S i corner t t 0 0 0
link_start P k R S i corner t = record { linking = linking_start P k R i corner t; row = sym (zero-mul S) }

module _ (P k R S i : ℕ) (s t₀ t : List ℕ) (c o l : ℕ) (G : LinkingIn P k R S i (cell 0 S s) t₀ t c o l) (h : c < k) (I : RowLent P k R S i s (length t₀)) where
  abbrev r : Linking P k R i (cell 0 S s) t₀ t c l
  r = G.linking

  cell_read : cell 0 S s c i ≡ get_or s (o + i) 0
  unfolding cell
  cell_read = ap (λ (x : ℕ). get_or s (x + i) 0) (sym G.row)

  -- the places that a turn reads and writes
  pub column_in : o + S ≤ length s
  column_in = omega (arith, col_fits c k S h, G.row, I.columns)

  pub corner_in : o + i < length s
  corner_in = omega (arith, column_in, I.here)

  pub links_in : P + (l + R) ≤ length t
  links_in = omega (arith, col_fits c k R h, r.at, r.long, I.table)

  pub link_in : P + (l + i) < length t
  link_in = omega (arith, links_in, I.linked)

  pub head_below : get_or s (o + i) 0 < P
  head_below = subst (λ (x : ℕ). x < P) cell_read (I.below c h)

  pub head_in : get_or s (o + i) 0 < length t
  head_in = omega (arith, head_below, link_in)

  -- a turn
  pub cell_linking : LinkingIn P k R S i (cell 0 S s) t₀ (set (set t (P + (l + i)) (get_or t (get_or s (o + i) 0) 0)) (get_or s (o + i) 0) (i + 1)) (c + 1) (o + S) (l + R)
  cell_linking =
      record {
        linking =
            subst (λ (x : ℕ). Linking P k R i (cell 0 S s) t₀ (set (set t (P + (l + i)) (get_or t x 0)) x (i + 1)) (c + 1) (l + R)) cell_read
            (rw (add-one i) (linking_more P k R i (cell 0 S s) t₀ t c l r h I.linked I.table I.below I.apart));
        row = ap (λ (x : ℕ). x + S) G.row ∙ sym (next_col c S);
      }

-- the loop over the cells
pub record Building (P k R n : ℕ) (corner : ℕ → ℕ → ℕ) (lt : ℕ) (t : List ℕ) (i : ℕ) : Type 0 where
  pub linked : LinkedFrom P k R n corner t i
  pub below : i ≤ n
  pub long : length t ≡ lt

module _ (P k R S n : ℕ) (s : List ℕ) (lt : ℕ) (B : BuildRoom P k R S n s lt) where
  pub building_start : (t : List ℕ) → Cleared t → length t ≡ lt → Building P k R n (cell 0 S s) lt t n
  building_start t z e =
      record {
        linked = linked_start P k R n (cell 0 S s) t (λ j. by j (dec_lt j (length t)));
        below = omega arith;
        long = e;
      }
    where
      by : (j : ℕ) → Dec (j < length t) → get_or t j 0 ≡ 0
      by j (yes q) = z.zero_at j q
      by j (no q) = get_or-eq_default t 0 (omega (arith, q))

  pub building_row : (t : List ℕ) (i : ℕ) → Building P k R n (cell 0 S s) lt t i → 0 < i → RowLent P k R S (i - 1) s (length t)
  building_row t i G h =
      let l : i - 1 < n = omega (arith, G.below) in
      record {
        linked = omega (arith, B.room.cells);
        here = omega (arith, B.room.rows);
        small = omega (arith, B.room.small);
        columns = B.room.columns;
        table = rw G.long B.room.table;
        below = λ c x. B.apart.below c (i - 1) x l;
        apart = λ b c x y. B.apart.apart b c (i - 1) x y l;
      }

  pub building_more : (t t' : List ℕ) (i : ℕ) → Building P k R n (cell 0 S s) lt t i → 0 < i → CellLinked P k R (i - 1) (cell 0 S s) t t' → length t' ≡ length t → Building P k R n (cell 0 S s) lt t' (i - 1)
  building_more t t' i G h C e =
      let l : i - 1 < n = omega (arith, G.below) in
      let f : i ≡ suc (i - 1) = omega arith in
      record {
        linked = linked_more P k R n (cell 0 S s) t t' (i - 1) l B.room.cells B.apart (subst (λ (x : ℕ). LinkedFrom P k R n (cell 0 S s) t x) f G.linked) C;
        below = omega arith;
        long = e ∙ G.long;
      }

  pub building_done : (t : List ℕ) (i : ℕ) → Building P k R n (cell 0 S s) lt t i → i ≡ 0 → LinksOf P k R n (cell 0 S s) t
  building_done t i G e = linked_done P k R n (cell 0 S s) t (subst (λ (x : ℕ). LinkedFrom P k R n (cell 0 S s) t x) e G.linked)
