-- Laws of tables of corners: where each corner of an element stands, and that links between corners join what elements hold together. Assumes nothing.
use mathlib.Core.Path.{◌≡◌, refl, sym, ◌∙◌, ap, subst}
use mathlib.Core.List.{List, [], ◌∷◌, ◌++◌, map}
use Prim.Native.Nat.{ℕ, zero, suc, ◌+◌, ◌*◌, ◌/◌, ◌<◌, ◌≤◌, zero-le, suc-le-suc}
use native.Mathlib.Omega.{arith}
use native.Mathlib.Nat.{not-suc-le-zero, le_of_suc-le-suc, mul-le-mul_right, div-lt_iff_lt-mul}
use native.Mathlib.Decide.{dec_lt}
use lib.ListN.{length, get_or, get_or-append}
use lib.Seq.{get_or-append-add, get_or-take}
use Rattle.lists.specs.Lists.{each}
use Rattle.lists.specs.Chain.{Chain, stay, ahead, back}
use Rattle.lists.proofs.Stores.{at_eq}
use Rattle.lists.proofs.Sifts.{stands_get, stands_made}
use Rattle.model.specs.Elements.{Element}
use Rattle.model.specs.Pieces.{corners_at}
use Rattle.elements.specs.Table.{Cornered}
use Rattle.piece_classes.specs.Classes.{Holds, Together}
use Rattle.bodies.specs.Bodies.{Corners}
use Rattle.bodies.specs.Tables.{Link}

-- ---- rows of k

-- a row ends before the next begins
pub row_before : (k e i : ℕ) → e < i → e * k + k ≤ i * k
row_before k e i h = omega (arith, mul-le-mul_right k h)

-- a place lies in one row only
pub row_same : (k e c i j : ℕ) → c < k → j < k → e * k + c ≡ i * k + j → e ≡ i
row_same k e c i j lc lj h =
    elim (dec_lt e i) [
      | yes l ↦ absurd (omega (arith, row_before k e i l))
      | no m ↦ elim (dec_lt i e) [ yes l ↦ absurd (omega (arith, row_before k i e l)) | no l ↦ omega arith ]
    ]

-- a place of the first n rows lies in one of them
pub row_within : (k e c n : ℕ) → e * k + c < n * k → e < n
row_within k e c n h = elim (dec_lt e n) [ yes l ↦ l | no m ↦ absurd (let o : n ≤ e = omega arith in omega (arith, mul-le-mul_right k o)) ]

-- the row of a place
pub place_in : (n k t : ℕ) → 1 ≤ k → t < n * k → t / k < n
place_in n k t one l = (div-lt_iff_lt-mul one).1 l

-- rows of k, one behind the other: place c of row i
pub each_at : {A : Type 0} (f : A → List ℕ) (k : ℕ) (l : List A) → ((i : ℕ) → i < length l → length (get_or (map f l) i []) ≡ k)
    → (i c : ℕ) → i < length l → c < k → get_or (each f l) (i * k + c) 0 ≡ get_or (get_or (map f l) i []) c 0
unfolding each
each_at f k [] w i c h g = absurd (not-suc-le-zero h)
each_at f k (a ∷ l) w zero c h g =
    let e : 0 * k + c ≡ c = omega arith in
    let s : length (f a) ≡ k = w 0 (suc-le-suc zero-le) in
    at_eq (f a ++ each f l) e ∙ get_or-append (f a) (each f l) 0 c (omega arith)
each_at f k (a ∷ l) w (suc i) c h g =
    let s : length (f a) ≡ k = w 0 (suc-le-suc zero-le) in
    let e : suc i * k + c ≡ length (f a) + (i * k + c) = omega arith in
    at_eq (f a ++ each f l) e ∙ get_or-append-add (f a) (each f l) (i * k + c) 0 ∙ each_at f k l (λ j m. w (suc j) (suc-le-suc m)) i c (le_of_suc-le-suc h) g

-- the same corners, where the count of particles is said another way
pub corners_for : {n k : ℕ} {verts : List ℕ} {l m : ℕ} → l ≡ m → Corners n k verts l → Corners n k verts m
corners_for {n} {k} {verts} e C = subst (λ (m : ℕ). Corners n k verts m) e C

-- where the corners of element i stand, and that they are particles
module _ {n k : ℕ} {verts : List ℕ} {m : ℕ} (C : Corners n k verts m) where
  pub corners_room : (i : ℕ) → i < n → i * k + k ≤ length verts
  corners_room i l = omega (arith, row_before k i n l, C.room)

  pub corner_below : (i c : ℕ) → i < n → c < k → get_or verts (i * k + c) 0 < m
  corner_below i c l g = C.below (i * k + c) (omega (arith, row_before k i n l))

  pub first_below : (i : ℕ) → i < n → get_or verts (i * k) 0 < m
  first_below i l = C.below (i * k) (omega (arith, row_before k i n l, C.width.0))

-- ---- corners of elements

module _ {k n : ℕ} {es : List Element} {verts : List ℕ} (C : Cornered k es n verts) where
  -- corner c of element i
  pub corner_at : (i c : ℕ) → i < n → c < k → get_or (corners_at es i) c 0 ≡ get_or verts (i * k + c) 0
  corner_at i c h g =
      let l : i < length es = omega (arith, C.count) in
      let b : i * k + c < n * k = omega (arith, row_before k i n h) in
      sym (each_at (λ (e : Element). e.corners) k es C.whole i c l g)
      ∙ ap (λ (t : List ℕ). get_or t (i * k + c) 0) (sym C.corners_are)
      ∙ get_or-take (n * k) verts (i * k + c) 0 b

  -- an element holds each of its corners, and only those
  pub holds_corner : (i c x : ℕ) → i < n → c < k → get_or verts (i * k + c) 0 ≡ x → Holds es i x
  holds_corner i c x h g e =
      let l : i < length es = omega (arith, C.count) in
      (l, stands_made x (corners_at es i) c (omega (arith, C.whole i l)) (corner_at i c h g ∙ e))

  pub corner_held : (i x : ℕ) → Holds es i x → (c : ℕ) × ((c < k) × (get_or verts (i * k + c) 0 ≡ x))
  corner_held i x h =
      let w = stands_get x (corners_at es i) h.1 in
      let l : i < n = omega (arith, C.count, h.0) in
      let g : w.0 < k = omega (arith, C.whole i h.0, w.1.0) in
      (w.0, (g, sym (corner_at i w.0 l g) ∙ w.1.1))

  -- linked corners lie together, and what lies together is linked through the first corner
  pub link_together : (x y : ℕ) → Link k verts (n * k) x y → Together es x y
  link_together x y L =
      let l : L.element < n = row_within k L.element L.corner n L.before in
      let z : L.element * k + 0 ≡ L.element * k = omega arith in
      record {
        element = L.element;
        holds_first = holds_corner L.element 0 x l (let g = L.narrow in omega arith) (at_eq verts z ∙ L.first);
        holds_second = holds_corner L.element L.corner y l L.narrow L.other;
      }

  link_to : (i x : ℕ) → Holds es i x → Link k verts (n * k) (get_or verts (i * k) 0) x
  link_to i x h =
      let w = corner_held i x h in
      let g = w.1.0 in
      let l : i < n = omega (arith, C.count, h.0) in
      record { element = i; corner = w.0; narrow = g; before = omega (arith, row_before k i n l); first = refl; other = w.1.1 }

  pub together_links : (x y : ℕ) → Together es x y → Chain (Link k verts (n * k)) x y
  together_links x y T = back (link_to T.element x T.holds_first) (ahead (link_to T.element y T.holds_second) stay)
