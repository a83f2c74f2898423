-- Laws of the table of all elements: its corners name the particles that the blocks name, and the tables of pieces tell of its elements. Assumes nothing.
use mathlib.Core.Path.{◌≡◌, refl, sym, ◌∙◌, ap, subst}
use mathlib.Core.Bool.{Bool, true, false}
use mathlib.Core.List.{List, [], ◌∷◌}
use Prim.Native.Nat.{ℕ, suc, ◌*◌, ◌/◌, ◌<◌, ◌≤◌}
use native.Mathlib.Omega.{arith}
use borrow.Author.Tests.{lt-ltb, ltb-true}
use lib.Dec.{ltb}
use lib.Ieee.{Float}
use lib.ListN.{length, get_or, length-take}
use lib.Seq.{get_or-take}
use Rattle.lists.specs.Lists.{pick, all, each}
use Rattle.lists.proofs.Sifts.{and_true, true_and, all_append, all_get, tab_all}
use Rattle.model.specs.Mesh.{Triangle, Edge}
use Rattle.model.specs.Elements.{Kind, Triangles, Straps, Nothing, Element, corners_of, ends_of, structural?, strap_element, triangles_from, straps_from, corners_per_of}
use Rattle.mesh.specs.At.{triangle_row, edge_row, triangles_at, edges_at}
use Rattle.mesh.proofs.Lists.{edges_length}
use Rattle.lists.proofs.Stores.{tab_length}
use Rattle.elements.specs.Table.{elements_in, Cornered, Tabled}
use Rattle.elements.proofs.Filling.{triangles_length, straps_length}
use Rattle.bodies.specs.Bodies.{Corners, BodyRoots, UsedMarked}
use Rattle.bodies.proofs.Spans.{spans_by_tables}
use Rattle.work.specs.Places.{CornersIn, EndsIn, SidesIn}
use Rattle.straddlers.specs.Straddling.{spans_by, PiecesTold}

-- ---- corners name particles

abbrev all_corners : List Element → List ℕ
all_corners es = each (λ (e : Element). e.corners) es

abbrev below : ℕ → ℕ → Bool
below p x = ltb x p

triangles_below : (p i : ℕ) (ts : List Triangle) → all (λ (t : Triangle). all (below p) (corners_of t)) ts ≡ true → all (below p) (all_corners (triangles_from i ts)) ≡ true
unfolding triangles_from all each
triangles_below p i [] e = refl
triangles_below p i (t ∷ ts) e =
    let a = and_true (all (below p) (corners_of t)) (all (λ (t : Triangle). all (below p) (corners_of t)) ts) e in
    all_append (below p) (corners_of t) (all_corners (triangles_from (suc i) ts)) ∙ true_and a.0 (triangles_below p (suc i) ts a.1)

straps_by : (p i : ℕ) (a : Edge) (es : List Element) (t : Bool) → all (below p) (ends_of a) ≡ true → all (below p) (all_corners es) ≡ true
    → all (below p) (all_corners (pick t (strap_element i a ∷ es) es)) ≡ true
unfolding each
straps_by p i a es true d f = all_append (below p) (ends_of a) (all_corners es) ∙ true_and d f
straps_by p i a es false d f = f

straps_below : (p i : ℕ) (es : List Edge) → all (λ (e : Edge). all (below p) (ends_of e)) es ≡ true → all (below p) (all_corners (straps_from i es)) ≡ true
unfolding straps_from all each
straps_below p i [] e = refl
straps_below p i (a ∷ es) e =
    let b = and_true (all (below p) (ends_of a)) (all (λ (e : Edge). all (below p) (ends_of e)) es) e in
    straps_by p i a (straps_from (suc i) es) (structural? a) b.0 (straps_below p (suc i) es b.1)

module _ (p t e : ℕ) (corners : List ℕ) (volumes : List Float) (ends : List ℕ) (lengths : List Float) (C : CornersIn p t corners) (E : EndsIn p e ends) where
  -- the corners of all elements of a kind
  elements_below : (K : Kind) → all (below p) (all_corners (elements_in K (triangles_at t corners volumes) (edges_at e ends lengths))) ≡ true
  unfolding elements_in triangles_at edges_at all each
  elements_below Triangles =
      triangles_below p 0 (triangles_at t corners volumes)
      (tab_all (λ (t : Triangle). all (below p) (corners_of t)) t (triangle_row (length corners / 3) (length volumes / 2) corners volumes)
      (λ k h. true_and (lt-ltb _ _ (C.first k h)) (true_and (lt-ltb _ _ (C.second k h)) (true_and (lt-ltb _ _ (C.third k h)) refl))))
  elements_below Straps =
      straps_below p 0 (edges_at e ends lengths)
      (tab_all (λ (e : Edge). all (below p) (ends_of e)) e (edge_row (length ends / 4) (length lengths / 4) ends lengths)
      (λ k h. true_and (lt-ltb _ _ (E.first k h)) (true_and (lt-ltb _ _ (E.second k h)) refl)))
  elements_below Nothing = refl

  -- so do the first places of a table of them
  pub table_below : (K : Kind) (n k : ℕ) (verts : List ℕ) → Cornered k (elements_in K (triangles_at t corners volumes) (edges_at e ends lengths)) n verts → n * k ≤ length verts
      → (i : ℕ) → i < n * k → get_or verts i 0 < p
  table_below K n k verts T room i h =
      let l = all_corners (elements_in K (triangles_at t corners volumes) (edges_at e ends lengths)) in
      let q : get_or verts i 0 ≡ get_or l i 0 = sym (get_or-take (n * k) verts i 0 h) ∙ ap (λ (m : List ℕ). get_or m i 0) T.corners_are in
      let s : i < length l = omega (arith, ap length T.corners_are, length-take (n * k) verts) in
      subst (λ (x : ℕ). x < p) (sym q) (ltb-true _ _ (all_get (below p) l i 0 (elements_below K) s))

-- ---- more places than particles

module _ {p q n : ℕ} (h : p ≤ q) where
  pub corners_wide : {l : List ℕ} → CornersIn p n l → CornersIn q n l
  corners_wide C = record { first = λ j g. omega (arith, C.first j g); second = λ j g. omega (arith, C.second j g); third = λ j g. omega (arith, C.third j g) }

  pub ends_wide : {l : List ℕ} → EndsIn p n l → EndsIn q n l
  ends_wide E = record { first = λ j g. omega (arith, E.first j g); second = λ j g. omega (arith, E.second j g) }

  pub sides_wide : {l : List ℕ} → SidesIn p n l → SidesIn q n l
  sides_wide S = record { first = λ j g. omega (arith, S.first j g); second = λ j g. omega (arith, S.second j g) }

-- ---- the table has room

record Few (n k : ℕ) : Type 0 where
  width : (1 ≤ k) × (k ≤ 3)
  few : n ≤ 2048
  narrow : n * k ≤ 4096

table_few : (K : Kind) (t e : ℕ) (corners : List ℕ) (volumes : List Float) (ends : List ℕ) (lengths : List Float) (n : ℕ) → t ≤ 1024 → e ≤ 2048
    → n ≡ length (elements_in K (triangles_at t corners volumes) (edges_at e ends lengths)) → Few n (corners_per_of K)
unfolding elements_in triangles_at
table_few Triangles t e C W E B n ht he c =
    let h = triangles_length 0 (triangles_at t C W) in
    let g = tab_length t (triangle_row (length C / 3) (length W / 2) C W) in
    record { width = (omega arith, omega arith); few = omega arith; narrow = omega arith }
table_few Straps t e C W E B n ht he c =
    let h = straps_length 0 (edges_at e E B) in
    let g = edges_length e E B in
    record { width = (omega arith, omega arith); few = omega arith; narrow = omega arith }
table_few Nothing t e C W E B n ht he c = record { width = (omega arith, omega arith); few = omega arith; narrow = omega arith }

-- the table as the search for pieces asks for it, where each particle that is named has a place
pub table_corners : (K : Kind) (t e : ℕ) (corners : List ℕ) (volumes : List Float) (ends : List ℕ) (lengths : List Float) (n k p : ℕ) (numbers verts : List ℕ) (measures : List Float)
    → t ≤ 1024 → e ≤ 2048 → CornersIn p t corners → EndsIn p e ends → 4096 ≤ length verts → k ≡ corners_per_of K
    → Tabled (corners_per_of K) (elements_in K (triangles_at t corners volumes) (edges_at e ends lengths)) n numbers verts measures → Corners n k verts p
table_corners K t e C W E B n k p numbers verts measures ht he CI EI long ek T =
    let F = table_few K t e C W E B n ht he T.cornered.count in
    let room : n * corners_per_of K ≤ length verts = omega (arith, F.narrow) in
    subst (λ (z : ℕ). Corners n z verts p) (sym ek)
    (record { width = F.width; few = F.few; room = room; below = table_below p t e C W E B CI EI K n (corners_per_of K) verts T.cornered room })

-- the same with more places
pub corners_more : {n k p q : ℕ} {verts : List ℕ} → Corners n k verts p → p ≤ q → Corners n k verts q
corners_more C h = record { width = C.width; few = C.few; room = C.room; below = λ t l. omega (arith, C.below t l) }

-- ---- the tables of pieces

pub pieces_told : (K : Kind) (es : List Element) (n k : ℕ) (numbers verts : List ℕ) (measures : List Float) (parent used : List ℕ) → k ≡ corners_per_of K
    → Tabled (corners_per_of K) es n numbers verts measures → BodyRoots n k verts parent → UsedMarked n k verts used → length parent ≤ length used → PiecesTold es parent used
unfolding spans_by
pieces_told K es n k numbers verts measures parent used ek T R U h =
    record { spans_are = spans_by_tables es (subst (λ (z : ℕ). Cornered z es n verts) (sym ek) T.cornered) R U h }
