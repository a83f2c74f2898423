-- A table's rows are the corners of its elements: rows, labels, seeds and the reach of a group, by the table and by the elements. Assumes nothing.
use mathlib.Core.Path.{◌≡◌, refl, sym, ◌∙◌, ap, subst}
use mathlib.Core.Bool.{Bool, true, false, false≢true}
use mathlib.Core.Logic.{◌⊎◌, inl, inr, ⊎_elim}
use mathlib.Core.List.{List, [], ◌∷◌, ◌++◌, map}
use Prim.Native.Nat.{ℕ, zero, suc, ◌+◌, ◌-◌, ◌*◌, ◌<◌, ◌≤◌, zero-le, suc-le-suc}
use native.Mathlib.Omega.{arith}
use native.Mathlib.Nat.{not-suc-le-zero, le_of_suc-le-suc, zero-mul, suc-mul, mul-le-mul_right}
use borrow.Author.Tests.{eq-eqb, ne_eqb, eqb-true}
use lib.Dec.{eqb}
use lib.ListN.{length, get_or, take, drop, length-map}
use lib.Seq.{take_at, drop_at, take-nil, take-take, drop-drop}
use Rattle.lists.specs.Lists.{pick, stands, sift, each}
use Rattle.lists.specs.Chain.{stay, ahead}
use Rattle.lists.specs.Labels.{Joins, labelled}
use Rattle.lists.proofs.Chains.{chain_map}
use Rattle.lists.proofs.Labelled.{lowest_unique, lowest_map, labelled_lowest, labelled_length}
use Rattle.lists.proofs.Stores.{map_at}
use Rattle.lists.proofs.Sifts.{pick_by, stands_made}
use Rattle.model.specs.Elements.{Kind, Element, corners_per_of}
use Rattle.model.specs.Split.{Part, Opening, parts_of}
use Rattle.model.specs.Pieces.{corners_at, facet_between, reach_labels, labels_at, members_of, reach_of}
use Rattle.elements.specs.Table.{Cornered, holding}
use Rattle.reach.specs.Opens.{Numbered, opening_at}
use Rattle.reach.specs.Reached.{number_at}
use Rattle.reach.specs.Walk.{row, facet_shared, touching, holds_row, tally, seeds, seed_labels, reach_from, table_reach}
use Rattle.reach.proofs.Tallies.{both, tally_ext, tally_first, sift_tally}
use Rattle.reach.proofs.Rowing.{touch_low}
use Rattle.reach.proofs.Walks.{seed_get, seed_made, reach_ext}

-- ---- rows

drop_take : (m n : ℕ) (l : List ℕ) → m ≤ n → drop m (take n l) ≡ take (n - m) (drop m l)
drop_take zero n l h = let e : n ≡ n - 0 = omega arith in ap (λ (a : ℕ). take a l) e
drop_take (suc m) zero l h = absurd (not-suc-le-zero h)
drop_take (suc m) (suc n) [] h = sym (take-nil (suc n - suc m))
drop_take (suc m) (suc n) (x ∷ l) h = let e : suc n - suc m ≡ n - m = omega arith in rw e (drop_take m n l (le_of_suc-le-suc h))

-- the jth row of rows of k each
each_row : (k : ℕ) (es : List Element) → ((i : ℕ) → i < length es → length (corners_at es i) ≡ k) → (j : ℕ) → j < length es
    → take k (drop (j * k) (each (λ (e : Element). e.corners) es)) ≡ corners_at es j
unfolding each
each_row k [] w j h = absurd (not-suc-le-zero h)
each_row k (e ∷ es) w zero h = rw (zero-mul k) (take_at e.corners (each (λ (e : Element). e.corners) es) k (w 0 h))
each_row k (e ∷ es) w (suc j) h =
    let m : suc j * k ≡ k + j * k = suc-mul j k ∙ omega arith in
    let d : drop (k + j * k) (e.corners ++ each (λ (e : Element). e.corners) es) ≡ drop (j * k) (each (λ (e : Element). e.corners) es)
    = sym (drop-drop (j * k) k (e.corners ++ each (λ (e : Element). e.corners) es)) ∙ ap (drop (j * k)) (drop_at e.corners (each (λ (e : Element). e.corners) es) k (w 0 (suc-le-suc zero-le))) in
    rw (m, d) (each_row k es (λ i l. w (suc i) (suc-le-suc l)) j (le_of_suc-le-suc h))

module _ {k n : ℕ} {es : List Element} {verts : List ℕ} (C : Cornered k es n verts) where
  below_all : (j : ℕ) → j < n → j < length es
  below_all j l = omega (arith, C.count)

  pub row_is : (j : ℕ) → j < n → row k verts j ≡ corners_at es j
  row_is j l =
      let b : j * k + k ≤ n * k = subst (λ (m : ℕ). m ≤ n * k) (suc-mul j k) (mul-le-mul_right k l) in
      sym (take-take k (n * k - j * k) (drop (j * k) verts) (omega arith)) ∙ ap (take k) (sym (drop_take (j * k) (n * k) verts (omega arith)))
      ∙ ap (λ (r : List ℕ). take k (drop (j * k) r)) C.corners_are
      ∙ each_row k es C.whole j (below_all j l)

  pub held_is : (v j : ℕ) → j < n → holds_row k v verts j ≡ stands v (corners_at es j)
  unfolding holds_row
  held_is v j l = ap (stands v) (row_is j l)

-- ---- labels

-- tests that agree on the pairs of places have the same labels
pub labelled_ext : (p q : ℕ → ℕ → Bool) (n : ℕ) → ((i j : ℕ) → i < j → j < n → p i j ≡ q i j) → labelled p n ≡ labelled q n
labelled_ext p q n h =
    lowest_unique (labelled p n) (labelled q n) (labelled_lowest p n)
    (lowest_map (λ i j. chain_map (λ a b m. ahead (over q p (λ i j o w. sym (h i j o w)) a b m) stay)) (λ i j. chain_map (λ a b m. ahead (over p q h a b m) stay)) (labelled_lowest q n))
  where
    over : (p q : ℕ → ℕ → Bool) → ((i j : ℕ) → i < j → j < n → p i j ≡ q i j) → (a b : ℕ) → Joins p n a b → Joins q n a b
    over p q h a b m = record { order = m.order; within = m.within; joined = sym (h a b m.order m.within) ∙ m.joined }

module _ {k n : ℕ} {es : List Element} {verts : List ℕ} (C : Cornered k es n verts) (K : Kind) (kind : corners_per_of K ≡ k) (v : ℕ) where
  touch_is : (i j : ℕ) → i < j → j < n → touching k v verts i j ≡ facet_between K v (corners_at es i) (corners_at es j)
  unfolding facet_shared
  touch_is i j o l = touch_low k v verts i j o ∙ rw (row_is C i (omega arith), row_is C j l, kind)

  pub labels_are : labelled (touching k v verts) n ≡ reach_labels K v es
  unfolding reach_labels
  labels_are =
      labelled_ext (touching k v verts) (λ i j. facet_between K v (corners_at es i) (corners_at es j)) n touch_is
      ∙ ap (labelled (λ i j. facet_between K v (corners_at es i) (corners_at es j))) C.count

-- ---- seeds

module _ (v g : ℕ) where
  -- the numbers of the fan elements of group g
  abbrev members : List Element → List ℕ → List ℕ
  members es gs = map (λ (p : Part). p.number) (sift (λ (p : Part). eqb p.group g) (parts_of (holding v es) gs))

  pick_false : (t u : Bool) → pick t true u ≡ false → (t ≡ false) × (u ≡ false)
  pick_false true u z = absurd (false≢true (sym z))
  pick_false false u z = (refl, z)

  -- a part more, whose number is not x
  put_other : (x : ℕ) (p : Part) (l : List Part) (t : Bool) → eqb p.number x ≡ false
      → stands x (map (λ (p : Part). p.number) (pick t (p ∷ l) l)) ≡ stands x (map (λ (p : Part). p.number) l)
  put_other x p l true a = rw a
  put_other x p l false a = refl

  -- members of the list with one element more, where that has another number than x
  other : (x : ℕ) (e : Element) (es : List Element) (y : ℕ) (gs : List ℕ) → eqb e.number x ≡ false
      → stands x (map (λ (p : Part). p.number) (sift (λ (p : Part). eqb p.group g) (parts_of (e ∷ holding v es) (y ∷ gs)))) ≡ stands x (members es gs)
  unfolding sift parts_of
  other x e es y gs a =
      put_other x (record { number = e.number; corners = e.corners; measure = e.measure; group = y }) (sift (λ (p : Part). eqb p.group g) (parts_of (holding v es) gs)) (eqb y g) a

  -- a number that no element has is no member's
  absent_by : (x : ℕ) (e : Element) (es : List Element) (t : Bool) (gs : List ℕ) → eqb e.number x ≡ false → ((gs : List ℕ) → stands x (members es gs) ≡ false)
      → stands x (map (λ (p : Part). p.number) (sift (λ (p : Part). eqb p.group g) (parts_of (pick t (e ∷ holding v es) (holding v es)) gs))) ≡ false
  unfolding sift parts_of
  absent_by x e es true [] a f = refl
  absent_by x e es true (y ∷ gs) a f = other x e es y gs a ∙ f gs
  absent_by x e es false gs a f = f gs

  absent : (x : ℕ) (es : List Element) (gs : List ℕ) → stands x (map (λ (e : Element). e.number) es) ≡ false → stands x (members es gs) ≡ false
  unfolding sift parts_of
  absent x [] gs h = refl
  absent x (e ∷ es) gs h =
      let w = pick_false (eqb e.number x) _ h in
      absent_by x e es (stands v e.corners) gs w.0 (λ gs. absent x es gs w.1)

  -- the test of a row: it holds v, and the fan's group at its place is g
  abbrev chosen : (ℕ → Bool) → List ℕ → ℕ → Bool
  chosen h gs j = pick (h j) (eqb (get_or gs (tally h j) 0) g) false

  chosen_on : (h : ℕ → Bool) (y : ℕ) (gs : List ℕ) (j : ℕ) → h 0 ≡ true → chosen h (y ∷ gs) (suc j) ≡ chosen (λ i. h (suc i)) gs j
  chosen_on h y gs j e =
      let f : tally h (suc j) ≡ suc (tally (λ i. h (suc i)) j) = tally_first h j ∙ rw e (omega arith) in
      rw f

  chosen_off : (h : ℕ → Bool) (gs : List ℕ) (j : ℕ) → h 0 ≡ false → chosen h gs (suc j) ≡ chosen (λ i. h (suc i)) gs j
  chosen_off h gs j e =
      let f : tally h (suc j) ≡ tally (λ i. h (suc i)) j = tally_first h j ∙ rw e (omega arith) in
      rw f

  -- the first row
  head_in : (x : ℕ) (p : Part) (l : List Part) (t : Bool) → p.number ≡ x → stands x (map (λ (p : Part). p.number) l) ≡ false
      → t ≡ stands x (map (λ (p : Part). p.number) (pick t (p ∷ l) l))
  head_in x p l true e a = rw (eq-eqb _ _ e)
  head_in x p l false e a = sym a

  different : (e : Element) (es : List Element) → Numbered (e ∷ es) → (j : ℕ) → j < length es → eqb e.number (number_at es j) ≡ false
  different e es d j l =
      ne_eqb _ _ (λ q.
      let b : j < length (map (λ (e : Element). e.number) es) = omega (arith, length-map es (λ (e : Element). e.number)) in
      false≢true (sym d.0 ∙ stands_made e.number (map (λ (e : Element). e.number) es) j b (sym q)))

  chosen_by : (e : Element) (es : List Element) (t : Bool) (gs : List ℕ) (h : ℕ → Bool) → stands v e.corners ≡ t → length gs ≡ length (pick t (e ∷ holding v es) (holding v es))
      → Numbered (e ∷ es) → h 0 ≡ t
      → ((gs : List ℕ) → length gs ≡ length (holding v es) → (j : ℕ) → j < length es → chosen (λ i. h (suc i)) gs j ≡ stands (number_at es j) (members es gs))
      → (j : ℕ) → j < suc (length es)
      → chosen h gs j ≡ stands (number_at (e ∷ es) j) (map (λ (p : Part). p.number) (sift (λ (p : Part). eqb p.group g) (parts_of (pick t (e ∷ holding v es) (holding v es)) gs)))
  unfolding sift parts_of tally
  chosen_by e es true [] h q n d a f j l = absurd (omega arith)
  chosen_by e es true (y ∷ gs) h q n d a f zero l =
      rw a (head_in e.number (record { number = e.number; corners = e.corners; measure = e.measure; group = y }) (sift (λ (p : Part). eqb p.group g) (parts_of (holding v es) gs)) (eqb y g) refl (absent e.number es gs d.0))
  chosen_by e es true (y ∷ gs) h q n d a f (suc j) l =
      chosen_on h y gs j a ∙ f gs (omega arith) j (le_of_suc-le-suc l) ∙ sym (other (number_at es j) e es y gs (different e es d j (le_of_suc-le-suc l)))
  chosen_by e es false gs h q n d a f zero l = rw a (sym (absent e.number es gs d.0))
  chosen_by e es false gs h q n d a f (suc j) l = chosen_off h gs j a ∙ f gs n j (le_of_suc-le-suc l)

  pub chosen_is : (es : List Element) (gs : List ℕ) (h : ℕ → Bool) → length gs ≡ length (holding v es) → Numbered es
      → ((j : ℕ) → j < length es → h j ≡ stands v (corners_at es j)) → (j : ℕ) → j < length es → chosen h gs j ≡ stands (number_at es j) (members es gs)
  unfolding sift
  chosen_is [] gs h n d a j l = absurd (not-suc-le-zero l)
  chosen_is (e ∷ es) gs h n d a j l =
      chosen_by e es (stands v e.corners) gs h refl n d (a 0 (suc-le-suc zero-le))
      (λ gs m. chosen_is es gs (λ i. h (suc i)) m d.1 (λ i b. a (suc i) (suc-le-suc b))) j l

-- ---- labels of the members

module _ (ns : List ℕ) (x : ℕ) where
  put_get : (l : ℕ) (m : List ℕ) (t : Bool) → stands x (pick t (l ∷ m) m) ≡ true → ((t ≡ true) × (l ≡ x)) ⊎ (stands x m ≡ true)
  put_get l m true e = by (eqb l x) refl e
    where
      by : (u : Bool) → eqb l x ≡ u → pick u true (stands x m) ≡ true → ((true ≡ true) × (l ≡ x)) ⊎ (stands x m ≡ true)
      by true q z = inl (refl, eqb-true l x q)
      by false q z = inr z
  put_get l m false e = inr e

  pub label_get : (es : List Element) (ls : List ℕ) → stands x (labels_at ns es ls) ≡ true
      → (i : ℕ) × ((i < length es) × ((stands (number_at es i) ns ≡ true) × (get_or ls i 0 ≡ x)))
  unfolding labels_at
  label_get [] ls e = absurd (false≢true e)
  label_get (a ∷ es) [] e = absurd (false≢true e)
  label_get (a ∷ es) (l ∷ ls) e =
      ⊎_elim (λ w. (0, (suc-le-suc zero-le, (w.0, w.1)))) (λ z. let w = label_get es ls z in (suc w.0, (suc-le-suc w.1.0, w.1.1)))
      (put_get l (labels_at ns es ls) (stands a.number ns) e)

  put_here : (l : ℕ) (m : List ℕ) (t : Bool) → t ≡ true → l ≡ x → stands x (pick t (l ∷ m) m) ≡ true
  put_here l m true e f = rw (eq-eqb l x f)
  put_here l m false e f = absurd (false≢true e)

  put_later : (l : ℕ) (m : List ℕ) (t : Bool) → stands x m ≡ true → stands x (pick t (l ∷ m) m) ≡ true
  put_later l m true e = pick_by (λ (b : Bool). b ≡ true) (eqb l x) refl e
  put_later l m false e = e

  pub label_made : (es : List Element) (ls : List ℕ) → length ls ≡ length es → (i : ℕ) → i < length es → stands (number_at es i) ns ≡ true → get_or ls i 0 ≡ x
      → stands x (labels_at ns es ls) ≡ true
  unfolding labels_at
  label_made [] ls n i l s e = absurd (not-suc-le-zero l)
  label_made (a ∷ es) [] n i l s e = absurd (omega arith)
  label_made (a ∷ es) (b ∷ ls) n zero l s e = put_here b (labels_at ns es ls) (stands a.number ns) s e
  label_made (a ∷ es) (b ∷ ls) n (suc i) l s e = put_later b (labels_at ns es ls) (stands a.number ns) (label_made es ls (omega arith) i (le_of_suc-le-suc l) s e)

-- ---- the reach of a group

-- by the places: how many labels stand among those of the members
pub reach_count : (es : List Element) (ls : List ℕ) (O : Opening) (g : ℕ) → length ls ≡ length es
    → reach_from (λ i. stands (number_at es i) (members_of O g)) (length es) ls ≡ reach_of es ls O g
unfolding reach_from reach_of
reach_count es ls O g n =
    let ns = members_of O g in
    let q : ℕ → Bool = λ l. stands l (labels_at ns es ls) in
    tally_ext (λ j. stands (get_or ls j 0) (seed_labels (λ i. stands (number_at es i) ns) (length es) ls)) (λ j. get_or (map q ls) j false) (length es)
    (λ j l.
    both _ _
    (λ e.
    let w = seed_get (λ i. stands (number_at es i) ns) (length es) ls (get_or ls j 0) e in
    map_at q ls j 0 false (omega arith) ∙ label_made ns (get_or ls j 0) es ls n w.0 w.1.0 w.1.1.0 w.1.1.1)
    (λ e.
    let w = label_get ns (get_or ls j 0) es ls (sym (map_at q ls j 0 false (omega arith)) ∙ e) in
    seed_made (λ i. stands (number_at es i) ns) (length es) ls (get_or ls j 0) w.0 w.1.0 w.1.1.0 w.1.1.1))
    ∙ ap (tally (λ j. get_or (map q ls) j false)) (sym n) ∙ sym (sift_tally q ls)

pub labels_long : (K : Kind) (v : ℕ) (es : List Element) → length (reach_labels K v es) ≡ length es
unfolding reach_labels
labels_long K v es = labelled_length (λ i j. facet_between K v (corners_at es i) (corners_at es j)) (length es)

module _ {k n : ℕ} {es : List Element} {verts : List ℕ} (C : Cornered k es n verts) (v : ℕ) (groups : List ℕ) where
  map_get : (f : List ℕ → Bool) (l : List Element) (j : ℕ) → f [] ≡ false → get_or (map (λ (e : Element). f e.corners) l) j false ≡ f (corners_at l j)
  map_get f [] j z = sym z
  map_get f (e ∷ l) zero z = refl
  map_get f (e ∷ l) (suc j) z = map_get f l j z

  -- as many rows hold v as the fan has elements
  pub held_count : length (holding v es) ≡ tally (holds_row k v verts) n
  held_count =
      sift_tally (λ (e : Element). stands v e.corners) es ∙ ap (tally (λ j. get_or (map (λ (e : Element). stands v e.corners) es) j false)) (sym C.count)
      ∙ tally_ext (λ j. get_or (map (λ (e : Element). stands v e.corners) es) j false) (holds_row k v verts) n (λ j l. map_get (stands v) es j refl ∙ sym (held_is C v j l))

  module _ (K : Kind) (kind : corners_per_of K ≡ k) (numbered : Numbered es) (grouped : length groups ≡ tally (holds_row k v verts) n) (before count g : ℕ) where
    seeds_are : (j : ℕ) → j < n → seeds k v verts groups g j ≡ stands (number_at es j) (members_of (opening_at v before es groups count) g)
    unfolding seeds members_of
    seeds_are j l =
        chosen_is v g es groups (holds_row k v verts) (grouped ∙ sym held_count) numbered (λ i b. held_is C v i (omega (arith, C.count))) j (omega (arith, C.count))

    -- the reach by the table is the reach by the elements
    pub reach_is : table_reach n k v verts groups g ≡ reach_of es (reach_labels K v es) (opening_at v before es groups count) g
    unfolding table_reach
    reach_is =
        let O = opening_at v before es groups count in
        let ls = reach_labels K v es in
        ap (reach_from (seeds k v verts groups g) n) (labels_are C K kind v)
        ∙ reach_ext (seeds k v verts groups g) (λ i. stands (number_at es i) (members_of O g)) n ls seeds_are
        ∙ ap (λ (m : ℕ). reach_from (λ i. stands (number_at es i) (members_of O g)) m ls) C.count
        ∙ reach_count es ls O g (labels_long K v es)
