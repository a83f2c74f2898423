-- Laws of pieces by facets: the count is the number of classes, and how it stands to the count of bodies, which a shared particle joins. Assumes nothing.
use mathlib.Core.Path.{◌≡◌, refl, sym, ◌∙◌, ap}
use mathlib.Core.Bool.{Bool, true, false, ◌&&◌, ◌||◌}
use mathlib.Core.List.{List, [], ◌∷◌}
use Prim.Native.Nat.{ℕ, zero, suc, ◌-◌, ◌<◌, ◌≤◌, zero-le, suc-le-suc}
use native.Mathlib.Omega.{arith}
use native.Mathlib.Nat.{not-suc-le-zero, le_of_suc-le-suc}
use native.Mathlib.Decide.{ℕ_discrete, dec_lt}
use borrow.Author.Tests.{leb-true, le-leb}
use lib.ListN.{length, get_or}
use lib.Dec.{leb}
use Rattle.lists.specs.Lists.{pick, stands, any, sift, distinct}
use Rattle.lists.specs.Chain.{Chain, stay, ahead, back}
use Rattle.lists.specs.Labels.{Joins}
use Rattle.lists.proofs.Chains.{chain_map, chain_to}
use Rattle.lists.proofs.Labelled.{labelled_joined, labelled_ext}
use Rattle.lists.proofs.Sifts.{and_true, true_and, sift_stands}
use Rattle.fan.specs.Fan.{Distinct}
use Rattle.model.specs.Trace.{Threes}
use Rattle.model_laws.proofs.Accepted.{accepted_rowed}
use Rattle.model.specs.Mesh.{Triangle, Edge, Mesh}
use Rattle.model.specs.Elements.{Kind, Triangles, Straps, Nothing, Element, kind_of, elements_of, corners_per_of, structural?, strap_element, triangles_from, straps_from}
use Rattle.model.specs.Valid.{indices_fit_of}
use Rattle.piece_classes.proofs.Distinct.{once_within}
use Rattle.piece_classes.proofs.Laws.{touching, Touch, touch_shares}
use Rattle.reach.specs.Reached.{Plain}
use Rattle.reach.proofs.Reached.{plain_elements}
use Rattle.model.specs.Pieces.{corners_at, shared_of, together, piece_labels, piece_count, pieces, touch, body_labels, bodies}
use Rattle.piece_classes.specs.Classes.{Share, Pieces, NoHangingCorner, SameCorners, FoundIn, Whole, SameElements}
use Rattle.piece_classes.proofs.Counts.{labels_stand, classes_map, classes_fewer, classes_coarser, classes_agree}

-- ---- how many particles are in both

-- what passes of a list without repeats has none
pub sift_differ : (p : ℕ → Bool) (l : List ℕ) → Distinct l → Distinct (sift p l)
unfolding sift
sift_differ p [] o = tt
sift_differ p (y ∷ l) o = by (p y) (sift_differ p l o.1)
  where
    no_more : (b : Bool) → b && false ≡ false
    no_more true = refl
    no_more false = refl

    by : (b : Bool) → Distinct (sift p l) → Distinct (pick b (y ∷ sift p l) (sift p l))
    by true h = (sift_stands p y l ∙ rw o.0 (no_more (p y)), h)
    by false h = h

-- particles in both are at most so many, where a names none twice
pub shared_most : (a b ps : List ℕ) → Distinct a → Distinct ps → ((x : ℕ) → stands x ps ≡ true → stands x a ≡ true) → ((x : ℕ) → stands x ps ≡ true → stands x b ≡ true)
    → length ps ≤ shared_of a b
unfolding shared_of
shared_most a b ps d e f g = once_within ps (sift (λ x. stands x b) a) e (sift_differ (λ x. stands x b) a d) (λ x t. sift_stands (λ x. stands x b) x a ∙ true_and (g x t) (f x t))

-- those that are in both stand in both
shared_in : (a b : List ℕ) (x : ℕ) → stands x (sift (λ y. stands y b) a) ≡ true → (stands x b ≡ true) × (stands x a ≡ true)
shared_in a b x t = and_true (stands x b) (stands x a) (sym (sift_stands (λ y. stands y b) x a) ∙ t)

-- some particle is in both exactly where at least one is
some_passes : (p : ℕ → Bool) (l : List ℕ) → any p l ≡ leb 1 (length (sift p l))
unfolding any sift
some_passes p [] = refl
some_passes p (x ∷ l) = by (p x) (some_passes p l)
  where
    by : (t : Bool) → any p l ≡ leb 1 (length (sift p l)) → t || any p l ≡ leb 1 (length (pick t (x ∷ sift p l) (sift p l)))
    by true e = sym (le-leb 1 (suc (length (sift p l))) (suc-le-suc zero-le))
    by false e = e

touch_shared : (a b : List ℕ) → touch a b ≡ leb 1 (shared_of a b)
unfolding shared_of
touch_shared a b = some_passes (λ x. stands x b) a

-- elements that share a facet touch
together_touch : (k : ℕ) (a b : List ℕ) → 2 ≤ k → together k a b ≡ true → touch a b ≡ true
together_touch k a b h t = touch_shared a b ∙ le-leb 1 (shared_of a b) (let q = leb-true (k - 1) (shared_of a b) t in omega arith)

-- ---- the test and the meaning

-- the test of which elements share a facet, and the pairs that it joins
abbrev pub sharing : ℕ → List Element → ℕ → ℕ → Bool
sharing k es i j = together k (corners_at es i) (corners_at es j)

abbrev pub Facet : ℕ → List Element → ℕ → ℕ → Type 0
Facet k es = Joins (sharing k es) (length es)

-- elements that k - 1 particles join one way are joined the other way
pub share_turned : {k : ℕ} {es : List Element} {i j : ℕ} → Share k es i j → Share k es j i
share_turned S =
    record { first = S.second; second = S.first; particles = S.particles; differ = S.differ; enough = S.enough; in_first = S.in_second; in_second = S.in_first }

module _ (k : ℕ) (es : List Element) (plain : Plain es) where
  -- the test is passed exactly where k - 1 particles are in both
  pub sharing_share : (i j : ℕ) → i < length es → j < length es → sharing k es i j ≡ true → Share k es i j
  unfolding shared_of
  sharing_share i j l m t =
      record {
        first = l;
        second = m;
        particles = sift (λ x. stands x (corners_at es j)) (corners_at es i);
        differ = sift_differ (λ x. stands x (corners_at es j)) (corners_at es i) (plain.distinct i l);
        enough = leb-true (k - 1) (shared_of (corners_at es i) (corners_at es j)) t;
        in_first = λ x s. (shared_in (corners_at es i) (corners_at es j) x s).1;
        in_second = λ x s. (shared_in (corners_at es i) (corners_at es j) x s).0;
      }

  pub share_sharing : (i j : ℕ) → Share k es i j → sharing k es i j ≡ true
  share_sharing i j S =
      let h = shared_most (corners_at es i) (corners_at es j) S.particles (plain.distinct i S.first) S.differ S.in_first S.in_second in
      let e = S.enough in
      le-leb (k - 1) (shared_of (corners_at es i) (corners_at es j)) (omega arith)

  facet : (i j : ℕ) → i < j → Share k es i j → Facet k es i j
  facet i j o S = record { order = o; within = S.second; joined = share_sharing i j S }

  -- the chains of both are the same
  pub facet_shares : (i j : ℕ) → Facet k es i j → Chain (Share k es) i j
  facet_shares i j T = let o = T.order in let w = T.within in ahead (sharing_share i j (omega arith) w T.joined) stay

  pub share_facets : (i j : ℕ) → Share k es i j → Chain (Facet k es) i j
  share_facets i j S =
      elim (ℕ_discrete i j) [
        | yes e ↦ chain_to e stay
        | no n ↦
            elim (dec_lt i j) [
              | yes o ↦ ahead (facet i j o S) stay
              | no m ↦ back (facet j i (omega arith) (share_turned S)) stay
            ]
      ]

  -- the distinct labels stand for the pieces
  pub pieces_stand : Pieces k es (distinct (piece_labels k es))
  unfolding piece_labels
  pieces_stand = classes_map (λ i j c. chain_map facet_shares c) (λ i j c. chain_map share_facets c) (labels_stand (sharing k es) (length es))

  -- however elements are chosen that stand for the pieces, there are so many
  pub count_only : (reps : List ℕ) → Pieces k es reps → length reps ≡ piece_count k es
  unfolding piece_count
  count_only reps C = classes_agree C pieces_stand

-- The piece count is the number of classes: there are so many elements that no chain of shared facets joins two of them and one joins each element to one of them.
pub pieces_are_classes : (M : Mesh) → indices_fit_of M ≡ true → (reps : List ℕ) × ((length reps ≡ pieces M) × Pieces (corners_per_of (kind_of M)) (elements_of (kind_of M) M) reps)
unfolding pieces piece_count
pieces_are_classes M fit =
    let k = corners_per_of (kind_of M) in
    let es = elements_of (kind_of M) M in
    (distinct (piece_labels k es), (refl, pieces_stand k es (plain_elements (kind_of M) M fit)))

-- So the piece count is no other number.
pub pieces_only : (M : Mesh) → indices_fit_of M ≡ true → (reps : List ℕ) → Pieces (corners_per_of (kind_of M)) (elements_of (kind_of M) M) reps → length reps ≡ pieces M
unfolding pieces
pieces_only M fit = count_only (corners_per_of (kind_of M)) (elements_of (kind_of M) M) (plain_elements (kind_of M) M fit)

-- ---- pieces and bodies

module _ (k : ℕ) (es : List Element) (two : 2 ≤ k) where
  facet_touch : (i j : ℕ) → Facet k es i j → Chain (Touch es) i j
  facet_touch i j F = let T : Touch es i j = record { order = F.order; within = F.within; joined = together_touch k (corners_at es i) (corners_at es j) two F.joined } in ahead T stay

  -- elements of one piece are of one body
  pub piece_in_body : (i j : ℕ) → i < length es → j < length es → get_or (piece_labels k es) i 0 ≡ get_or (piece_labels k es) j 0 → get_or (body_labels es) i 0 ≡ get_or (body_labels es) j 0
  unfolding piece_labels body_labels
  piece_in_body i j l m e = (labelled_joined (touching es) (length es) i j l m).1 (chain_map facet_touch ((labelled_joined (sharing k es) (length es) i j l m).0 e))

  -- so the pieces are at least as many
  pub bodies_fewer : length (distinct (body_labels es)) ≤ piece_count k es
  unfolding piece_count piece_labels body_labels
  bodies_fewer = classes_coarser (λ i j c. chain_map facet_touch c) (labels_stand (sharing k es) (length es)) (labels_stand (touching es) (length es))

pub two_corners : (K : Kind) → 2 ≤ corners_per_of K
two_corners Triangles = omega arith
two_corners Straps = omega arith
two_corners Nothing = omega arith

-- the piece count is never below the count of bodies
pub finer : (M : Mesh) → bodies M ≤ pieces M
unfolding pieces bodies
finer M = bodies_fewer (corners_per_of (kind_of M)) (elements_of (kind_of M) M) (two_corners (kind_of M))

-- with two corners to each element a shared particle is a facet
pub pair_labels : (es : List Element) → piece_labels 2 es ≡ body_labels es
unfolding piece_labels body_labels
pair_labels es = labelled_ext (sharing 2 es) (touching es) (length es) (λ i j o w. sym (touch_shared (corners_at es i) (corners_at es j)))

-- so for straps the two counts are equal
pub straps_as_before : (M : Mesh) → kind_of M ≡ Straps → pieces M ≡ bodies M
unfolding pieces piece_count bodies
straps_as_before M e = rw e (ap (λ (l : List ℕ). length (distinct l)) (pair_labels (elements_of Straps M)))

-- ---- no corner that hangs

module _ (k : ℕ) (es : List Element) (plain : Plain es) (none : NoHangingCorner k es) where
  touch_facets : (i j : ℕ) → Touch es i j → Chain (Facet k es) i j
  touch_facets i j T =
      chain_map
      (λ a b S. chain_map (λ c d A. share_facets k es plain c d A.share) (none S.particle a b S.in_first S.in_second))
      (touch_shares es i j T)

  pub pieces_fewer : piece_count k es ≤ length (distinct (body_labels es))
  unfolding piece_count piece_labels body_labels
  pieces_fewer = classes_coarser (λ i j c. chain_map touch_facets c) (labels_stand (touching es) (length es)) (labels_stand (sharing k es) (length es))

-- If at every particle all elements are joined by chains of elements that share a facet at it, the two counts are equal.
pub no_hanging_corner : (M : Mesh) → indices_fit_of M ≡ true → NoHangingCorner (corners_per_of (kind_of M)) (elements_of (kind_of M) M) → pieces M ≡ bodies M
unfolding pieces bodies
no_hanging_corner M fit none =
    let k = corners_per_of (kind_of M) in
    let es = elements_of (kind_of M) M in
    let a : piece_count k es ≤ length (distinct (body_labels es)) = pieces_fewer k es (plain_elements (kind_of M) M fit) none in
    let b : length (distinct (body_labels es)) ≤ piece_count k es = bodies_fewer k es (two_corners (kind_of M)) in
    omega arith

-- ---- any order

module _ (k : ℕ) (es fs : List Element) (plain : Plain fs) (whole : Whole k fs) (there : FoundIn es fs) where
  -- elements with the same particles share them
  alike : (a i j : ℕ) → i < length fs → j < length fs → SameCorners (corners_at es a) (corners_at fs i) → SameCorners (corners_at es a) (corners_at fs j) → Share k fs i j
  alike a i j l m s t =
      record {
        first = l;
        second = m;
        particles = corners_at fs i;
        differ = plain.distinct i l;
        enough = omega (arith, whole i l);
        in_first = λ x e. e;
        in_second = λ x e. sym (t x) ∙ s x ∙ e;
      }

  -- elements that share a facet share it in the other list
  moved : (a b i j : ℕ) → Share k es a b → i < length fs → j < length fs → SameCorners (corners_at es a) (corners_at fs i) → SameCorners (corners_at es b) (corners_at fs j) → Share k fs i j
  moved a b i j S l m s t =
      record {
        first = l;
        second = m;
        particles = S.particles;
        differ = S.differ;
        enough = S.enough;
        in_first = λ x e. sym (s x) ∙ S.in_first x e;
        in_second = λ x e. sym (t x) ∙ S.in_second x e;
      }

  chain_moved : {a b : ℕ} → Chain (Share k es) a b → (i j : ℕ) → i < length fs → j < length fs
      → SameCorners (corners_at es a) (corners_at fs i) → SameCorners (corners_at es b) (corners_at fs j) → Chain (Share k fs) i j
  chain_moved {a} stay i j l m s t = ahead (alike a i j l m s t) stay
  chain_moved {a} (ahead {j = b} S c) i j l m s t =
      let w = there b S.second in
      ahead (moved a b i w.0 S l w.1.0 s w.1.1) (chain_moved c w.0 j w.1.0 m w.1.1 t)
  chain_moved {a} (back {j = b} S c) i j l m s t =
      let w = there b S.first in
      back (moved b a w.0 i S w.1.0 l w.1.1 s) (chain_moved c w.0 j w.1.0 m w.1.1 t)

fewer_moved : (k : ℕ) (es fs : List Element) → Plain es → Plain fs → Whole k fs → SameElements es fs → piece_count k fs ≤ piece_count k es
unfolding piece_count
fewer_moved k es fs p q whole same =
    classes_fewer (pieces_stand k es p) (pieces_stand k fs q) (λ i l. let w = same.back i l in (w.0, w.1.0))
    (λ i j l m c.
    let u = same.back i l in
    let w = same.back j m in
    chain_moved k es fs q whole same.there c i j l m (λ x. sym (u.1.1 x)) (λ x. sym (w.1.1 x)))

pub count_any_order : (k : ℕ) (es fs : List Element) → Plain es → Plain fs → Whole k es → Whole k fs → SameElements es fs → piece_count k es ≡ piece_count k fs
count_any_order k es fs p q v w same =
    let a = fewer_moved k es fs p q w same in
    let b = fewer_moved k fs es q p v (record { there = same.back; back = same.there }) in
    omega arith

-- the elements of a mesh have as many corners as its kind says
triangles_whole : (i : ℕ) (ts : List Triangle) → Threes ts → Whole 3 (triangles_from i ts)
unfolding triangles_from
triangles_whole i [] h j l = absurd (not-suc-le-zero l)
triangles_whole i (t ∷ ts) h zero l = h.0
triangles_whole i (t ∷ ts) h (suc j) l = triangles_whole (suc i) ts h.1 j (le_of_suc-le-suc l)

straps_whole : (i : ℕ) (es : List Edge) → Whole 2 (straps_from i es)
unfolding straps_from
straps_whole i [] j l = absurd (not-suc-le-zero l)
straps_whole i (a ∷ es) j l = by (structural? a) (straps_whole (suc i) es) j l
  where
    by : (t : Bool) → Whole 2 (straps_from (suc i) es) → Whole 2 (pick t (strap_element i a ∷ straps_from (suc i) es) (straps_from (suc i) es))
    by true h zero l = refl
    by true h (suc j) l = h j (le_of_suc-le-suc l)
    by false h j l = h j l

pub whole_elements : (K : Kind) (M : Mesh) → indices_fit_of M ≡ true → Whole (corners_per_of K) (elements_of K M)
unfolding elements_of
whole_elements Triangles M e i l = triangles_whole 0 M.triangles (accepted_rowed M e).triangles i l
whole_elements Straps M e i l = straps_whole 0 M.edges i l
whole_elements Nothing M e i l = absurd (not-suc-le-zero l)

-- The count does not depend on the order of the elements, nor on that of their corners.
pub any_order : (M N : Mesh) → indices_fit_of M ≡ true → indices_fit_of N ≡ true → kind_of M ≡ kind_of N → SameElements (elements_of (kind_of M) M) (elements_of (kind_of N) N) → pieces M ≡ pieces N
unfolding pieces
any_order M N m n e same = by (kind_of M) (kind_of N) e same
  where
    by : (J K : Kind) → J ≡ K → SameElements (elements_of J M) (elements_of K N) → piece_count (corners_per_of J) (elements_of J M) ≡ piece_count (corners_per_of K) (elements_of K N)
    by J K d s =
        count_any_order (corners_per_of J) (elements_of J M) (elements_of K N) (plain_elements J M m) (plain_elements K N n) (whole_elements J M m)
        (rw d (whole_elements K N n)) s
        ∙ ap (λ (H : Kind). piece_count (corners_per_of H) (elements_of K N)) d
