-- Laws of families and of the pair that stands for a torn edge. Assumes nothing.
use Prim.Native.Nat.{ℕ, zero, suc, ◌+◌, ◌*◌, ◌/◌, ◌<◌, ◌≤◌, zero-le, suc-le-suc}
use native.Mathlib.Nat.{le_of_suc-le-suc, not-suc-le-zero}
use native.Mathlib.Omega.{arith}
use native.Mathlib.Decide.{ℕ_discrete}
use mathlib.Core.Path.{◌≡◌, refl, sym, ◌∙◌, ap, ap₂}
use mathlib.Core.Bool.{Bool, true, false, ◌&&◌, ◌||◌}
use mathlib.Core.List.{List, [], ◌∷◌, ◌++◌, map}
use mathlib.Core.Option.{Option, none, some}
use lib.ListN.{length, get_or, take, drop, set, length-set, drop_of_length-le}
use lib.Ieee.{Float}
use lib.Dec.{eqb}
use borrow.Author.Tests.{eq-eqb, ne_eqb}
use Rattle.lists.specs.Lists.{pick, stands, any, each, fold, find, tab}
use Rattle.lists.proofs.Sifts.{fold_append}
use Rattle.lists.proofs.Steps.{each_step, each_drop}
use Rattle.columns.proofs.Cells.{col_0, col_1}
use Rattle.columns.proofs.Rows.{any_none, any_more, any_stops, any_end}
use Rattle.columns.proofs.Sweep.{front_grows}
use Rattle.model.specs.Mesh.{Edge, Mesh}
use Rattle.model.specs.Elements.{Kind}
use Rattle.model.specs.Run.{Entry, split, edge, insert, opened, met, Run, split_of, splits_of}
use Rattle.model.specs.Crack.{family, joins, cross_pairs, first_of, current_of, current_pair}
use Rattle.mesh.specs.At.{edge_row, edges_at}
use Rattle.mesh.specs.Log.{Words, words_of, entry_row, log_at}
use Rattle.elements.specs.Table.{HeldBoth}
use Rattle.elements.proofs.Held.{held_is}
use Rattle.std.specs.Prelude.{Option as Opt, None, Some}
use Rattle.tear.specs.Families.{split_by_of, splits_by, source_in, FamilyFound, joins_by, JoinTold, meet, MeshIn, MeetTold, FirstMet, pair_is, PairMet, FamiliesMet}

-- ---- families

-- the words of a log tell of the splits of the log
split_by : (e : Entry) → split_by_of (words_of e) ≡ split_of e
split_by (split c v) = refl
split_by (edge a b) = refl
split_by (insert a b p q t) = refl
split_by (opened a b) = refl
split_by (met a b p t) = refl

pub splits_by_lem : (es : List Entry) → splits_by (map words_of es) ≡ splits_of es
unfolding splits_by splits_of each
splits_by_lem [] = refl
splits_by_lem (e ∷ es) = ap₂ (λ (a b : List (ℕ × ℕ)). a ++ b) (split_by e) (splits_by_lem es)

-- one copy in turn
abbrev grow : List ℕ → ℕ × ℕ → List ℕ
grow f cs = pick (stands cs.1 f) (f ++ (cs.0 ∷ [])) f

-- one entry more
family_more : (a : ℕ) (log : List ℕ) (i : ℕ) → family (splits_by (log_at (i + 1) log)) a ≡ fold grow (family (splits_by (log_at i log)) a) (split_by_of (entry_row log i))
unfolding family splits_by log_at
family_more a log i =
    ap (fold grow (a ∷ [])) (each_step split_by_of (entry_row log) i) ∙ fold_append grow (a ∷ []) (each split_by_of (tab i (entry_row log))) (split_by_of (entry_row log i))

grow_by : (f : List ℕ) (c v : ℕ) (s t : Bool) → stands v f ≡ t → fold grow f (pick s ((c, v) ∷ []) []) ≡ pick (s && t) (f ++ (c ∷ [])) f
unfolding fold
grow_by f c v true t e = ap (λ (b : Bool). pick b (f ++ (c ∷ [])) f) e
grow_by f c v false t e = refl

grow_told : (w : Words) (f : List ℕ) (t : Bool) → source_in w f ≡ t → fold grow f (split_by_of w) ≡ pick t (f ++ (w.a ∷ [])) f
grow_told w f t e = grow_by f w.a w.b (eqb w.kind 1) (stands w.b f) refl ∙ ap (λ (b : Bool). pick b (f ++ (w.a ∷ [])) f) e

-- at the head of the loop: i entries were passed, and the family so far stands in the front of the table
pub record Gathering (a l : ℕ) (log : List ℕ) (lf : ℕ) (found : List ℕ) (r i : ℕ) : Type 0 where
  pub inside : i ≤ l
  pub few : r ≤ i + 1
  pub long : length found ≡ lf
  pub is : take r found ≡ family (splits_by (log_at i log)) a

pub gathering_start : (a l : ℕ) (log found : List ℕ) → 0 < length found → Gathering a l log (length found) (set found 0 a) 1 0
unfolding log_at tab splits_by each family fold
gathering_start a l log found h = record { inside = omega arith; few = omega arith; long = length-set found 0 a; is = front found h }
  where
    front : (s : List ℕ) → 0 < length s → take 1 (set s 0 a) ≡ a ∷ []
    front [] h = absurd (not-suc-le-zero h)
    front (b ∷ s) h = refl

-- with the length that the loop begins with
pub gathering_again : (a l : ℕ) (log found : List ℕ) → 0 < length found → Gathering a l log (length (set found 0 a)) (set found 0 a) 1 0
gathering_again a l log found h = let G = gathering_start a l log found h in record { inside = G.inside; few = G.few; long = refl; is = G.is }

module _ (a l : ℕ) (log : List ℕ) (lf : ℕ) (found : List ℕ) (r i : ℕ) (G : Gathering a l log lf found r i) where
  pub gathering_in : i < l → l + 1 ≤ lf → (t : Bool) → t ≡ source_in (entry_row log i) (take r found) → t ≡ true → (found' : List ℕ) (r' : ℕ)
      → found' ≡ set found r (get_or log (6 * i + 1) 0) → r' ≡ r + 1 → Gathering a l log lf found' r' (i + 1)
  gathering_in h room t q y found' r' ef er =
      let c = get_or log (6 * i + 1) 0 in
      let few = G.few in
      let long = G.long in
      let s : source_in (entry_row log i) (family (splits_by (log_at i log)) a) ≡ true = ap (source_in (entry_row log i)) (sym G.is) ∙ sym q ∙ y in
      record {
        inside = omega arith;
        few = omega arith;
        long = ap length ef ∙ length-set found r c ∙ long;
        is =
            ap₂ (λ (n : ℕ) (f : List ℕ). take n f) er ef ∙ front_grows found (family (splits_by (log_at i log)) a) r c G.is (omega arith)
            ∙ sym (family_more a log i ∙ grow_told (entry_row log i) (family (splits_by (log_at i log)) a) true s);
      }

  pub gathering_out : i < l → (t : Bool) → t ≡ source_in (entry_row log i) (take r found) → t ≡ false → (found' : List ℕ) (r' : ℕ)
      → found' ≡ found → r' ≡ r → Gathering a l log lf found' r' (i + 1)
  gathering_out h t q n found' r' ef er =
      let few = G.few in
      let s : source_in (entry_row log i) (family (splits_by (log_at i log)) a) ≡ false = ap (source_in (entry_row log i)) (sym G.is) ∙ sym q ∙ n in
      record {
        inside = omega arith;
        few = omega arith;
        long = ap length ef ∙ G.long;
        is = ap₂ (λ (m : ℕ) (f : List ℕ). take m f) er ef ∙ G.is ∙ sym (family_more a log i ∙ grow_told (entry_row log i) (family (splits_by (log_at i log)) a) false s);
      }

  pub gathering_done : l ≤ i → FamilyFound a l log r found
  gathering_done h =
      let n : i ≡ l = omega (arith, G.inside) in
      record { is = G.is ∙ ap (λ (k : ℕ). family (splits_by (log_at k log)) a) n; few = omega (arith, G.few) }

-- ---- edges between two particles

-- row k of the edges
abbrev edge_in : List ℕ → List Float → ℕ → Edge
edge_in ends lengths k = edge_row (length ends / 4) (length lengths / 4) ends lengths k

-- the row that is read
pub joins_read : (x y i : ℕ) (ends : List ℕ) (t b : Bool) → t ≡ joins_by x y (get_or ends i 0) (get_or ends (length ends / 4 + i) 0) → t ≡ b → (lengths : List Float) → joins (x, y) (edge_in ends lengths i) ≡ b
joins_read x y i ends t b q e lengths =
    ap₂ (λ (p s : ℕ). joins_by x y p s) (col_0 0 (length ends / 4) ends i) (col_1 0 (length ends / 4) ends i) ∙ sym q ∙ e

-- at the head of the loop: none of the first i edges is between x and y
pub record Joining (x y e : ℕ) (ends : List ℕ) (i : ℕ) : Type 0 where
  pub inside : i ≤ e
  pub none_yet : (lengths : List Float) → any (joins (x, y)) (tab i (edge_in ends lengths)) ≡ false

pub joining_start : (x y e : ℕ) (ends : List ℕ) → Joining x y e ends 0
joining_start x y e ends = record { inside = omega arith; none_yet = λ lengths. any_none (joins (x, y)) (edge_in ends lengths) }

module _ (x y e : ℕ) (ends : List ℕ) (i : ℕ) (J : Joining x y e ends i) where
  pub joining_more : i < e → (t : Bool) → t ≡ joins_by x y (get_or ends i 0) (get_or ends (length ends / 4 + i) 0) → t ≡ false → Joining x y e ends (i + 1)
  joining_more h t q n =
      record { inside = omega arith; none_yet = λ lengths. any_more (joins (x, y)) i (edge_in ends lengths) (J.none_yet lengths) (joins_read x y i ends t false q n lengths) }

  pub joining_found : i < e → (t : Bool) → t ≡ joins_by x y (get_or ends i 0) (get_or ends (length ends / 4 + i) 0) → t ≡ true → JoinTold x y e ends true
  unfolding edges_at
  joining_found h t q n = record { is = λ lengths. sym (any_stops (joins (x, y)) e i (edge_in ends lengths) h (joins_read x y i ends t true q n lengths)) }

  pub joining_done : e ≤ i → JoinTold x y e ends false
  unfolding edges_at
  joining_done h = record { is = λ lengths. any_end (joins (x, y)) e i (edge_in ends lengths) (J.none_yet lengths) J.inside h }

-- ---- do two particles meet

pub meets_held : (b : Bool) (x y k n : ℕ) (verts : List ℕ) (e : ℕ) (ends : List ℕ) (r : Bool) → b ≡ true → HeldBoth x y k n verts r → MeetTold b x y k n verts e ends r
meets_held b x y k n verts e ends r q H =
    record { is = λ K M lengths I. held_is K M x y k n verts r I.cornered H ∙ ap (λ (t : Bool). meet t K M (x, y)) (sym q) }

pub meets_joined : (b : Bool) (x y k n : ℕ) (verts : List ℕ) (e : ℕ) (ends : List ℕ) (r : Bool) → b ≡ false → JoinTold x y e ends r → MeetTold b x y k n verts e ends r
meets_joined b x y k n verts e ends r q J =
    record { is = λ K M lengths I. J.is lengths ∙ ap (any (joins (x, y))) (sym I.edges_are) ∙ ap (λ (t : Bool). meet t K M (x, y)) (sym q) }

-- ---- the first of a list

pub record Meeting (b : Bool) (x : ℕ) (ys : List ℕ) (k n : ℕ) (verts : List ℕ) (e : ℕ) (ends : List ℕ) (j : ℕ) : Type 0 where
  pub inside : j ≤ length ys
  pub earlier : (K : Kind) (M : Mesh) (lengths : List Float) → MeshIn K M k n verts e ends lengths → (i : ℕ) → i < j → meet b K M (x, get_or ys i 0) ≡ false

module _ (b : Bool) (x : ℕ) (ys : List ℕ) (k n : ℕ) (verts : List ℕ) (e : ℕ) (ends : List ℕ) where
  pub meeting_start : Meeting b x ys k n verts e ends 0
  meeting_start = record { inside = omega arith; earlier = λ K M lengths I i h. absurd (not-suc-le-zero h) }

  module _ (j : ℕ) (F : Meeting b x ys k n verts e ends j) where
    pub meeting_more : j < length ys → (t : Bool) → MeetTold b x (get_or ys j 0) k n verts e ends t → t ≡ false → Meeting b x ys k n verts e ends (j + 1)
    meeting_more h t T q = record { inside = omega arith; earlier = λ K M lengths I i l. by K M lengths I i l (ℕ_discrete i j) }
      where
        by : (K : Kind) (M : Mesh) (lengths : List Float) → MeshIn K M k n verts e ends lengths → (i : ℕ) → i < j + 1 → Dec (i ≡ j) → meet b K M (x, get_or ys i 0) ≡ false
        by K M lengths I i l (yes s) = ap (λ (m : ℕ). meet b K M (x, get_or ys m 0)) s ∙ sym (T.is K M lengths I) ∙ q
        by K M lengths I i l (no s) = F.earlier K M lengths I i (omega arith)

    pub meeting_found : j < length ys → (t : Bool) → MeetTold b x (get_or ys j 0) k n verts e ends t → t ≡ true → FirstMet b x ys k n verts e ends j
    meeting_found h t T q = record { within = F.inside; earlier = F.earlier; here = λ K M lengths I l. sym (T.is K M lengths I) ∙ q }

    pub meeting_done : length ys ≤ j → FirstMet b x ys k n verts e ends j
    meeting_done h = record { within = F.inside; earlier = F.earlier; here = λ K M lengths I l. absurd (omega arith) }

-- ---- the first pair

-- a row of pairs in which none passes, and one in which one does
row_none : (p : ℕ × ℕ → Bool) (x : ℕ) (ys : List ℕ) (m : List (ℕ × ℕ)) → ((j : ℕ) → j < length ys → p (x, get_or ys j 0) ≡ false) → find p (map (λ y. (x, y)) ys ++ m) ≡ find p m
unfolding find
row_none p x [] m h = refl
row_none p x (y ∷ ys) m h = rw (h 0 (suc-le-suc zero-le)) (row_none p x ys m (λ j l. h (suc j) (suc-le-suc l)))

row_some : (p : ℕ × ℕ → Bool) (x : ℕ) (ys : List ℕ) (m : List (ℕ × ℕ)) (r : ℕ) → r < length ys → ((j : ℕ) → j < r → p (x, get_or ys j 0) ≡ false) → p (x, get_or ys r 0) ≡ true
    → find p (map (λ y. (x, y)) ys ++ m) ≡ some (x, get_or ys r 0)
unfolding find
row_some p x [] m r l h e = absurd (not-suc-le-zero l)
row_some p x (y ∷ ys) m zero l h e = rw e
row_some p x (y ∷ ys) m (suc r) l h e = rw (h 0 (suc-le-suc zero-le)) (row_some p x ys m r (le_of_suc-le-suc l) (λ j g. h (suc j) (suc-le-suc g)) e)

-- the pairs of what is left of the first list
pairs_left : (xs ys : List ℕ) (i : ℕ) → i < length xs → cross_pairs (drop i xs) ys ≡ map (λ y. (get_or xs i 0, y)) ys ++ cross_pairs (drop (i + 1) xs) ys
unfolding cross_pairs
pairs_left xs ys i h = each_drop (λ x. map (λ y. (x, y)) ys) xs i 0 h

pub record Pairing (b : Bool) (xs ys : List ℕ) (k n : ℕ) (verts : List ℕ) (e : ℕ) (ends : List ℕ) (i : ℕ) : Type 0 where
  pub inside : i ≤ length xs
  pub rest : (K : Kind) (M : Mesh) (lengths : List Float) → MeshIn K M k n verts e ends lengths → find (meet b K M) (cross_pairs (drop i xs) ys) ≡ find (meet b K M) (cross_pairs xs ys)

module _ (b : Bool) (xs ys : List ℕ) (k n : ℕ) (verts : List ℕ) (e : ℕ) (ends : List ℕ) where
  pub pairing_start : Pairing b xs ys k n verts e ends 0
  pairing_start = record { inside = omega arith; rest = λ K M lengths I. refl }

  module _ (i : ℕ) (P : Pairing b xs ys k n verts e ends i) where
    pub pairing_more : i < length xs → (j : ℕ) → FirstMet b (get_or xs i 0) ys k n verts e ends j → length ys ≤ j → Pairing b xs ys k n verts e ends (i + 1)
    pairing_more h j F l =
        record {
          inside = omega arith;
          rest = λ K M lengths I.
              sym
              (ap (find (meet b K M)) (pairs_left xs ys i h)
              ∙ row_none (meet b K M) (get_or xs i 0) ys (cross_pairs (drop (i + 1) xs) ys) (λ m g. F.earlier K M lengths I m (omega arith)))
              ∙ P.rest K M lengths I;
        }

    pub pairing_found : i < length xs → (j : ℕ) → FirstMet b (get_or xs i 0) ys k n verts e ends j → j < length ys → PairMet b xs ys k n verts e ends (Some (get_or xs i 0, get_or ys j 0))
    pairing_found h j F l =
        record {
          is = λ K M lengths I.
              sym
              (ap (find (meet b K M)) (pairs_left xs ys i h)
              ∙ row_some (meet b K M) (get_or xs i 0) ys (cross_pairs (drop (i + 1) xs) ys) j l (F.earlier K M lengths I) (F.here K M lengths I l))
              ∙ P.rest K M lengths I;
        }

    pub pairing_done : length xs ≤ i → PairMet b xs ys k n verts e ends None
    unfolding cross_pairs each find
    pairing_done h =
        record { is = λ K M lengths I. ap (λ (l : List ℕ). find (meet b K M) (cross_pairs l ys)) (sym (drop_of_length-le xs h)) ∙ P.rest K M lengths I }

-- ---- one edge, one entry

pub same_first : (x y a b : ℕ) → a ≡ x → eqb b y ≡ eqb a x && eqb b y
same_first x y a b p = rw (eq-eqb a x p)

pub same_none : (x y a b : ℕ) → (a ≡ x → ⊥) → false ≡ eqb a x && eqb b y
same_none x y a b n = rw (ne_eqb a x n)

-- one test or the other
pub either_first : (s t r : Bool) → r ≡ s → r ≡ true → true ≡ s || t
either_first s t r e q = ap (λ (b : Bool). b || t) (sym q ∙ e)

pub either_second : (s t r q : Bool) → r ≡ s → r ≡ false → q ≡ t → q ≡ s || t
either_second s t r q e n d = d ∙ ap (λ (b : Bool). b || t) (sym n ∙ e)

pub source_told : (log : List ℕ) (i : ℕ) (l : List ℕ) (t : Bool) → get_or log (6 * i) 0 ≡ 1 → t ≡ stands (get_or log (6 * i + 2) 0) l → t ≡ source_in (entry_row log i) l
source_told log i l t e q = rw (eq-eqb (get_or log (6 * i) 0) 1 e) q

pub source_none : (log : List ℕ) (i : ℕ) (l : List ℕ) → (get_or log (6 * i) 0 ≡ 1 → ⊥) → false ≡ source_in (entry_row log i) l
source_none log i l n = rw (ne_eqb (get_or log (6 * i) 0) 1 n)

-- ---- pairs of families

module _ (a b l : ℕ) (log : List ℕ) (k n : ℕ) (verts : List ℕ) (e : ℕ) (ends : List ℕ) (p : ℕ) (F : List ℕ) (q : ℕ) (G : List ℕ) (f : FamilyFound a l log p F) (g : FamilyFound b l log q G) where
  pub families_met : (i : Bool) (r : Opt (ℕ × ℕ)) → PairMet i (take p F) (take q G) k n verts e ends r → FamiliesMet i a b l log k n verts e ends r
  families_met i r P =
      record {
        is = λ K R lengths w I.
            let s : splits_by (log_at l log) ≡ splits_of R.log = ap splits_by w ∙ splits_by_lem R.log in
            P.is K R.mesh lengths I
            ∙ ap₂ (λ (x y : List ℕ). find (meet i K R.mesh) (cross_pairs x y)) (f.is ∙ ap (λ (t : List (ℕ × ℕ)). family t a) s) (g.is ∙ ap (λ (t : List (ℕ × ℕ)). family t b) s);
      }
