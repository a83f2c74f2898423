-- `reach_of` counts the elements that a chain of facets without v joins to a fan element of the group, through the whole body. Assumes nothing.
use mathlib.Core.Path.{◌≡◌, refl, sym, ◌∙◌, ap}
use mathlib.Core.Bool.{Bool, true, false, not, ◌&&◌, false≢true}
use mathlib.Core.List.{List, [], ◌∷◌, map}
use Prim.Native.Nat.{ℕ, zero, suc, ◌+◌, ◌-◌, ◌<◌, ◌≤◌}
use native.Mathlib.Omega.{arith}
use native.Mathlib.Nat.{not-suc-le-zero, le_of_suc-le-suc}
use native.Mathlib.Decide.{ℕ_discrete, dec_le}
use borrow.Author.Tests.{leb-true, le-leb, eqb-true, eq-eqb, not-true}
use lib.Dec.{eqb, ltb}
use lib.ListN.{length, get_or, take}
use Rattle.lists.specs.Lists.{pick, stands, sift, all, up_to}
use Rattle.lists.specs.Chain.{Chain, stay, ahead, back}
use Rattle.lists.specs.Labels.{Joins, labelled}
use Rattle.lists.proofs.Chains.{chain_map, chain_to}
use Rattle.lists.proofs.Labelled.{labelled_joined}
use Rattle.lists.proofs.Stores.{map_at}
use Rattle.lists.proofs.Sifts.{pick_true, and_true}
use Rattle.fan.specs.Fan.{shared_others_of, Distinct}
use Rattle.fan.proofs.Either.{shared_either}
use Rattle.model.specs.Mesh.{Triangle, Edge, Mesh}
use Rattle.model.specs.Elements.{Kind, Triangles, Straps, Nothing, Element, corners_per_of, corners_of, ends_of, structural?, strap_element, triangles_from, straps_from, elements_of}
use Rattle.model.specs.Valid.{named, root_ok, corners_ok, ends_ok, side_ok, indices_fit_of}
use Rattle.model.specs.Split.{Opening}
use Rattle.model.specs.Pieces.{corners_at, facet_between, reach_labels, labels_at, members_of, reach_of}
use Rattle.elements.specs.Table.{elements_in, holding}
use Rattle.elements.proofs.Found.{elements_in_lem}
use Rattle.reach.specs.Opens.{Numbered, opening_at}
use Rattle.reach.specs.Reached.{Plain, Across, number_at, Reached, InGroup}
use Rattle.reach.specs.Walk.{tally}
use Rattle.reach.proofs.Tallies.{tally_ext, tally_first, tally_sift, sift_tally}
use Rattle.reach.proofs.Rowing.{tally_zero}
use Rattle.reach.proofs.Tables.{labels_long, label_get, label_made, chosen_is}

module _ (K : Kind) (v : ℕ) (es : List Element) (plain : Plain es) where
  -- a facet goes both ways
  facet_either : (i j : ℕ) → i < length es → j < length es → shared_others_of v (corners_at es i) (corners_at es j) ≡ shared_others_of v (corners_at es j) (corners_at es i)
  facet_either i j l m = shared_either v (corners_at es i) (corners_at es j) (plain.distinct i l) (plain.distinct j m)

  -- the pairs that the labels are made of, and chains of facets
  to_across : (a b : ℕ) → Joins (λ i j. facet_between K v (corners_at es i) (corners_at es j)) (length es) a b → Chain (Across K v es) a b
  to_across a b k =
      let o = k.order in
      let w = k.within in
      let A : Across K v es a b = record { from = omega arith; to = w; facet = leb-true _ _ k.joined } in
      ahead A stay

  from_across : (a b : ℕ) → Across K v es a b → Chain (Joins (λ i j. facet_between K v (corners_at es i) (corners_at es j)) (length es)) a b
  from_across a b A = elim (ℕ_discrete a b) [ yes e ↦ chain_to e stay | no ne ↦ by (dec_le a b) ne ]
    where
      by : Dec (a ≤ b) → (a ≡ b → ⊥) → Chain (Joins (λ i j. facet_between K v (corners_at es i) (corners_at es j)) (length es)) a b
      by (yes h) ne =
          let k : Joins (λ i j. facet_between K v (corners_at es i) (corners_at es j)) (length es) a b = record { order = omega arith; within = A.to; joined = le-leb _ _ A.facet } in
          ahead k stay
      by (no h) ne =
          let f : corners_per_of K - 1 ≤ shared_others_of v (corners_at es b) (corners_at es a) = omega (arith, facet_either a b A.from A.to, A.facet) in
          let k : Joins (λ i j. facet_between K v (corners_at es i) (corners_at es j)) (length es) b a = record { order = omega arith; within = A.from; joined = le-leb _ _ f } in
          back k stay

  -- an element's label is a member's exactly where a chain of facets joins it to a member
  pub reached : (ns : List ℕ) (j : ℕ) → j < length es
      → (stands (get_or (reach_labels K v es) j 0) (labels_at ns es (reach_labels K v es)) ≡ true → Reached K v es ns j)
      × (Reached K v es ns j → stands (get_or (reach_labels K v es) j 0) (labels_at ns es (reach_labels K v es)) ≡ true)
  unfolding reach_labels
  reached ns j l =
      let near : ℕ → ℕ → Bool = λ a b. facet_between K v (corners_at es a) (corners_at es b) in
      let ls = labelled near (length es) in (
        λ e.
            let w = label_get ns (get_or ls j 0) es ls e in
            record { start = w.0; within = w.1.0; member = w.1.1.0; chain = chain_map to_across ((labelled_joined near (length es) w.0 j w.1.0 l).0 w.1.1.1) },
        λ R.
            label_made ns (get_or ls j 0) es ls (labels_long K v es) R.start R.within R.member
            ((labelled_joined near (length es) R.start j R.within l).1 (chain_map from_across R.chain)),
      )

-- the reach of a group is the number of those elements
pub reach_counts : (K : Kind) (v : ℕ) (es : List Element) (O : Opening) (g : ℕ)
    → reach_of es (reach_labels K v es) O g
    ≡ length (sift (λ j. stands (get_or (reach_labels K v es) j 0) (labels_at (members_of O g) es (reach_labels K v es))) (up_to (length es)))
unfolding reach_of
reach_counts K v es O g =
    let ls = reach_labels K v es in
    let q : ℕ → Bool = λ l. stands l (labels_at (members_of O g) es ls) in
    sift_tally q ls ∙ ap (tally (λ j. get_or (map q ls) j false)) (labels_long K v es)
    ∙ tally_ext (λ j. get_or (map q ls) j false) (λ j. q (get_or ls j 0)) (length es) (λ j l. map_at q ls j 0 false (omega (arith, labels_long K v es)))
    ∙ sym (tally_sift (λ j. q (get_or ls j 0)) (length es))

-- the fan's place of an element
place_by : (e : Element) (l : List Element) (m : ℕ) (t : Bool) → length l ≡ m → length (pick t (e ∷ l) l) ≡ pick t 1 0 + m
place_by e l m true h = omega arith
place_by e l m false h = omega arith

place_is : (v : ℕ) (es : List Element) (i : ℕ) → i ≤ length es → length (holding v (take i es)) ≡ tally (λ j. stands v (corners_at es j)) i
unfolding sift
place_is v es zero l = tally_zero (λ j. stands v (corners_at es j))
place_is v [] (suc i) l = absurd (not-suc-le-zero l)
place_is v (e ∷ es) (suc i) l =
    place_by e (holding v (take i es)) (tally (λ j. stands v (corners_at es j)) i) (stands v e.corners) (place_is v es i (le_of_suc-le-suc l))
    ∙ sym (tally_first (λ j. stands v (corners_at (e ∷ es) j)) i)

-- the members of a group are its elements in the fan
pub member_is : (v before count g : ℕ) (es : List Element) (groups : List ℕ) → length groups ≡ length (holding v es) → Numbered es → (i : ℕ) → i < length es
    → (stands (number_at es i) (members_of (opening_at v before es groups count) g) ≡ true → InGroup v es groups g i)
    × (InGroup v es groups g i → stands (number_at es i) (members_of (opening_at v before es groups count) g) ≡ true)
unfolding members_of
member_is v before count g es groups n N i l =
    let h : ℕ → Bool = λ j. stands v (corners_at es j) in
    let e = chosen_is v g es groups h n N (λ j b. refl) i l in
    let f : length (holding v (take i es)) ≡ tally h i = place_is v es i (omega arith) in (
      λ m.
          let w = pick_true (h i) (eqb (get_or groups (tally h i) 0) g) (e ∙ m) in
          record { holds = w.0; group = ap (λ (a : ℕ). get_or groups a 0) f ∙ eqb-true _ _ w.1 },
      λ F. sym e ∙ rw F.holds (eq-eqb _ _ (sym (ap (λ (a : ℕ). get_or groups a 0) f) ∙ F.group)),
    )

-- ---- the elements of an accepted mesh name no particle twice

named_distinct : (n : ℕ) (l : List ℕ) → named n l ≡ true → Distinct l
unfolding named
named_distinct n [] e = tt
named_distinct n (x ∷ l) e =
    let a = and_true (ltb x n && not (stands x l)) (named n l) e in
    (not-true _ (and_true (ltb x n) (not (stands x l)) a.0).1, named_distinct n l a.1)

triangles_plain : (n i : ℕ) (ts : List Triangle) → all (corners_ok n) ts ≡ true → (j : ℕ) → j < length (triangles_from i ts) → Distinct (corners_at (triangles_from i ts) j)
unfolding triangles_from all corners_ok
triangles_plain n i [] e j l = absurd (not-suc-le-zero l)
triangles_plain n i (t ∷ ts) e zero l = named_distinct n (corners_of t) (and_true (eqb (length t.corners) 3) (named n t.corners) (and_true (corners_ok n t) (all (corners_ok n) ts) e).0).1
triangles_plain n i (t ∷ ts) e (suc j) l = triangles_plain n (suc i) ts (and_true (corners_ok n t) (all (corners_ok n) ts) e).1 j (le_of_suc-le-suc l)

straps_by : (i : ℕ) (a : Edge) (es : List Edge) (t : Bool) → Distinct (ends_of a) → ((j : ℕ) → j < length (straps_from (suc i) es) → Distinct (corners_at (straps_from (suc i) es) j))
    → (j : ℕ) → j < length (pick t (strap_element i a ∷ straps_from (suc i) es) (straps_from (suc i) es))
    → Distinct (corners_at (pick t (strap_element i a ∷ straps_from (suc i) es) (straps_from (suc i) es)) j)
straps_by i a es true d f zero l = d
straps_by i a es true d f (suc j) l = f j (le_of_suc-le-suc l)
straps_by i a es false d f j l = f j l

straps_plain : (n i : ℕ) (es : List Edge) → all (ends_ok n) es ≡ true → (j : ℕ) → j < length (straps_from i es) → Distinct (corners_at (straps_from i es) j)
unfolding straps_from all ends_ok
straps_plain n i [] e j l = absurd (not-suc-le-zero l)
straps_plain n i (a ∷ es) e j l =
    straps_by i a es (structural? a) (named_distinct n (ends_of a) (and_true _ _ e).0) (straps_plain n (suc i) es (and_true (ends_ok n a) (all (ends_ok n) es) e).1) j l

-- the parts of the test that speak of triangles and edges
parts : (M : Mesh) → indices_fit_of M ≡ true → (all (corners_ok (length M.particles)) M.triangles ≡ true) × (all (ends_ok (length M.particles)) M.edges ≡ true)
unfolding indices_fit_of
parts M e =
    let n = length M.particles in
    by (all (root_ok n) M.particles) (all (corners_ok n) M.triangles) (all (ends_ok n) M.edges) (all (side_ok n) M.boundary) e
  where
    by : (a b c d : Bool) → a && b && c && d ≡ true → (b ≡ true) × (c ≡ true)
    by true true true d z = (refl, refl)
    by true true false d z = absurd (false≢true z)
    by true false c d z = absurd (false≢true z)
    by false b c d z = absurd (false≢true z)

-- elements that pass the test
pub plain_in : (K : Kind) (n : ℕ) (ts : List Triangle) (es : List Edge) → all (corners_ok n) ts ≡ true → all (ends_ok n) es ≡ true → Plain (elements_in K ts es)
unfolding elements_in
plain_in Triangles n ts es p q = record { distinct = triangles_plain n 0 ts p }
plain_in Straps n ts es p q = record { distinct = straps_plain n 0 es q }
plain_in Nothing n ts es p q = record { distinct = λ i l. absurd (not-suc-le-zero l) }

pub plain_elements : (K : Kind) (M : Mesh) → indices_fit_of M ≡ true → Plain (elements_of K M)
plain_elements K M e = rw (elements_in_lem K M) (plain_in K (length M.particles) M.triangles M.edges (parts M e).0 (parts M e).1)
