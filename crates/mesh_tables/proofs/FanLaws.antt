-- The fan of a particle read from the columns: what a turn does at an element that holds it, and at one that does not. Assumes nothing.
use Prim.Native.Nat.{ℕ, ◌+◌, ◌*◌, ◌/◌, ◌<◌, ◌≤◌}
use native.Mathlib.Numerals.{add-one}
use native.Mathlib.Nat.{not-suc-le-zero}
use native.Mathlib.Omega.{arith}
use mathlib.Core.Path.{◌≡◌, refl, sym, ap, ◌∙◌}
use mathlib.Core.Bool.{Bool, true, false, ◌&&◌}
use mathlib.Core.List.{List, [], ◌∷◌, ◌++◌, map, map-append, append-nil}
use borrow.Author.Tests.{eq-eqb, ne_eqb}
use lib.Dec.{eqb}
use lib.ListN.{length, get_or, take, set, length-set, length-append}
use lib.Ieee.{Float, nan}
use Rattle.lists.specs.Lists.{pick, stands, sift, each, tab}
use Rattle.lists.proofs.Stores.{tab_length}
use Rattle.lists.proofs.Sifts.{sift_append, tab_suc, each_append}
use Rattle.columns.specs.Block.{cell}
use Rattle.columns.proofs.Cells.{next_col}
use Rattle.columns.proofs.Sweep.{front_grows}
use Rattle.model.specs.Mesh.{Triangle, Edge}
use Rattle.model.specs.Elements.{Kind, Element, structural?, strap_element, triangles_from, straps_from, corners_per_of}
use Rattle.mesh.specs.At.{edge_row, triangles_at, edges_at}
use Rattle.elements.specs.Table.{Cornered, holding, kind_is, elements_in}
use Rattle.elements.specs.declared.Kind.{Kind as KindCase}
use Rattle.elements.specs.declared.Kind.TheVariants.{Triangles as TrianglesCase, Straps as StrapsCase, Nothing as NothingCase}
use Rattle.elements.proofs.Tables.{whole_push}
use Rattle.elements.proofs.Filling.{front_two, front_three, triangle_at, triangles_more, strap_at, straps_push}
use Rattle.mesh_tables.specs.Fans.{RowPut, CornersRead, NumbersRead, triangles_with, straps_with, held_in}

-- ---- the tests

pick_self : (t : Bool) → t ≡ pick t true false
pick_self true = refl
pick_self false = refl

module _ (v a b : ℕ) where
  pub three_first : (c : ℕ) → a ≡ v → true ≡ stands v (a ∷ b ∷ c ∷ [])
  three_first c e = rw (eq-eqb a v e)

  pub three_second : (c : ℕ) → (a ≡ v → ⊥) → b ≡ v → true ≡ stands v (a ∷ b ∷ c ∷ [])
  three_second c n e = rw (ne_eqb a v n, eq-eqb b v e)

  pub three_last : (c : ℕ) → (a ≡ v → ⊥) → (b ≡ v → ⊥) → eqb c v ≡ stands v (a ∷ b ∷ c ∷ [])
  three_last c n m = rw (ne_eqb a v n, ne_eqb b v m) (pick_self (eqb c v))

  pub strap_other : (s : ℕ) → (s ≡ 1 → ⊥) → false ≡ eqb s 1 && stands v (a ∷ b ∷ [])
  strap_other s n = rw (ne_eqb s 1 n)

  pub strap_first : (s : ℕ) → s ≡ 1 → a ≡ v → true ≡ eqb s 1 && stands v (a ∷ b ∷ [])
  strap_first s e f = rw (eq-eqb s 1 e, eq-eqb a v f)

  pub strap_last : (s : ℕ) → s ≡ 1 → (a ≡ v → ⊥) → eqb b v ≡ eqb s 1 && stands v (a ∷ b ∷ [])
  strap_last s e n = rw (eq-eqb s 1 e, ne_eqb a v n) (pick_self (eqb b v))

-- ---- a row more of a table

-- three and two stores
module _ (r a b : ℕ) (l : List ℕ) where
  pub three_put : (c : ℕ) → r < length l / 3 → RowPut 3 r (a ∷ b ∷ c ∷ []) l (set (set (set l (3 * r) a) (3 * r + 1) b) (3 * r + 2) c)
  three_put c h =
      let e : r * 3 ≡ 3 * r = omega arith in
      record { long = simp length-set; rows = λ g. rw e (front_three l (3 * r) a b c (omega arith)) }

  pub two_put : r < length l / 2 → RowPut 2 r (a ∷ b ∷ []) l (set (set l (2 * r) a) (2 * r + 1) b)
  two_put h =
      let e : r * 2 ≡ 2 * r = omega arith in
      record { long = simp length-set; rows = λ g. rw e (front_two l (2 * r) a b (omega arith)) }

-- a table without room for the row
pub no_room : (k r : ℕ) (row l : List ℕ) → length l < r * k + k → RowPut k r row l l
no_room k r row l h = record { long = refl; rows = λ g. absurd (omega arith) }

-- ---- an element more, or none

-- nothing was read
pub corners_none : (k : ℕ) (verts : List ℕ) → CornersRead k [] 0 verts
unfolding each
corners_none k verts =
    let z : 0 * k ≡ 0 = omega arith in
    record { count = refl; cornered = λ h. record { count = refl; corners_are = rw z refl; whole = λ i g. absurd (not-suc-le-zero g) } }

pub numbers_none : (numbers : List ℕ) → NumbersRead [] 0 numbers
numbers_none numbers = record { count = refl; numbers_are = refl }

-- the corners of one more stand behind the others
cornered_push : (k : ℕ) (es : List Element) (r : ℕ) (K W : List ℕ) (e : Element) → Cornered k es r K → length e.corners ≡ k → take (r * k + k) W ≡ take (r * k) K ++ e.corners
    → Cornered k (es ++ (e ∷ [])) (r + 1) W
unfolding each
cornered_push k es r K W e C l c =
    record {
      count = omega (arith, C.count, length-append es (e ∷ []));
      corners_are =
          rw (next_col r k, c, C.corners_are)
          (sym (each_append (λ (x : Element). x.corners) es (e ∷ []) ∙ ap (λ (t : List ℕ). each (λ (x : Element). x.corners) es ++ t) (append-nil e.corners)));
      whole = whole_push k es e C.whole l;
    }

module _ (es ds : List Element) (e : Element) (s : Bool) (more : ds ≡ es ++ pick s (e ∷ []) []) where
  -- the rows are the same
  same_rows : s ≡ false → ds ≡ es
  same_rows f = more ∙ rw f (append-nil es)

  -- or one more
  more_rows : s ≡ true → ds ≡ es ++ (e ∷ [])
  more_rows f = more ∙ rw f refl

  pub corners_skip : (k r : ℕ) (K : List ℕ) → CornersRead k es r K → s ≡ false → CornersRead k ds r K
  corners_skip k r K F f = rw (same_rows f) F

  pub corners_take : (k r : ℕ) (K W : List ℕ) → CornersRead k es r K → s ≡ true → length e.corners ≡ k → RowPut k r e.corners K W → CornersRead k ds (r + 1) W
  corners_take k r K W F f l P =
      rw (more_rows f)
      (record {
        count = omega (arith, F.count, length-append es (e ∷ []));
        cornered = λ h.
            let g : r * k + k ≤ length K = omega (arith, next_col r k, P.long) in
            cornered_push k es r K W e (F.cornered (omega arith)) l (P.rows g);
      })

  pub numbers_skip : (r : ℕ) (N : List ℕ) → NumbersRead es r N → s ≡ false → NumbersRead ds r N
  numbers_skip r N F f = rw (same_rows f) F

  pub numbers_take : (r : ℕ) (N : List ℕ) → NumbersRead es r N → s ≡ true → r < length N → NumbersRead ds (r + 1) (set N r e.number)
  numbers_take r N F f h =
      rw (more_rows f)
      (record {
        count = omega (arith, F.count, length-append es (e ∷ []));
        numbers_are =
            front_grows N (map (λ (x : Element). x.number) es) r e.number F.numbers_are h
            ∙ sym (map-append (λ (x : Element). x.number) es (e ∷ []));
      })

-- ---- one triangle more, and one edge

-- an element of a list is held where it is one and holds v
holding_more : (v : ℕ) (es : List Element) (e : Element) (s : Bool) → holding v (es ++ pick s (e ∷ []) []) ≡ holding v es ++ pick (s && stands v e.corners) (e ∷ []) []
unfolding sift
holding_more v es e true = sift_append (λ (x : Element). stands v x.corners) es (e ∷ [])
holding_more v es e false = sift_append (λ (x : Element). stands v x.corners) es []

-- does triangle i of a block hold v
abbrev pub triangle_holds : ℕ → List ℕ → ℕ → Bool
triangle_holds v C i = stands v (get_or C i 0 ∷ get_or C (length C / 3 + i) 0 ∷ get_or C (2 * (length C / 3) + i) 0 ∷ [])

pub triangles_held : (v : ℕ) (C : List ℕ) (W : List Float) (i : ℕ) → triangles_with v (i + 1) C W ≡ triangles_with v i C W ++ pick (triangle_holds v C i) (triangle_at C W i ∷ []) []
triangles_held v C W i = ap (holding v) (triangles_more C W i) ∙ holding_more v (triangles_from 0 (triangles_at i C W)) (triangle_at C W i) true

-- is edge i of a block a strap that holds v
abbrev pub strap_holds_of : ℕ → List ℕ → ℕ → Bool
strap_holds_of v E i = eqb (get_or E (2 * (length E / 4) + i) 0) 1 && stands v (get_or E i 0 ∷ get_or E (length E / 4 + i) 0 ∷ [])

-- edge i of a block, as an element
strap_read : (E : List ℕ) (L : List Float) (i : ℕ) → strap_element i (edge_row (length E / 4) (length L / 4) E L i) ≡ strap_at E L i
unfolding cell
strap_read E L i =
    let a : 0 * (length E / 4) + i ≡ i = omega arith in
    let b : 1 * (length E / 4) + i ≡ length E / 4 + i = omega arith in
    let m : 1 * (length L / 4) + i ≡ length L / 4 + i = omega arith in
    λ s. record { number = i; corners = get_or E (a s) 0 ∷ get_or E (b s) 0 ∷ []; measure = get_or L (m s) nan }

pub straps_held : (v : ℕ) (E : List ℕ) (L : List Float) (i : ℕ) → straps_with v (i + 1) E L ≡ straps_with v i E L ++ pick (strap_holds_of v E i) (strap_at E L i ∷ []) []
unfolding edges_at cell
straps_held v E L i =
    let row : ℕ → Edge = edge_row (length E / 4) (length L / 4) E L in
    let e : 0 + length (tab i row) ≡ i = omega (arith, tab_length i row) in
    ap (λ (j : ℕ). holding v (straps_from 0 (tab j row))) (add-one i) ∙ ap (λ (l : List Edge). holding v (straps_from 0 l)) (tab_suc i row)
    ∙ ap (holding v) (straps_push 0 (tab i row) (row i)) ∙ ap (λ (j : ℕ). holding v (straps_from 0 (tab i row) ++ pick (structural? (row i)) (strap_element j (row i) ∷ []) [])) e
    ∙ ap (λ (x : Element). holding v (straps_from 0 (tab i row) ++ pick (structural? (row i)) (x ∷ []) [])) (strap_read E L i)
    ∙ holding_more v (straps_from 0 (tab i row)) (strap_at E L i) (structural? (row i))

-- before the first row
pub no_triangles : (v : ℕ) (C : List ℕ) (W : List Float) → triangles_with v 0 C W ≡ []
unfolding triangles_at triangles_from sift tab
no_triangles v C W = refl

pub no_straps : (v : ℕ) (E : List ℕ) (L : List Float) → straps_with v 0 E L ≡ []
unfolding edges_at straps_from sift tab
no_straps v E L = refl

-- ---- whichever the kind is

module _ (kind : KindCase) (v t e : ℕ) (C : List ℕ) (W : List Float) (E : List ℕ) (L : List Float) (r : ℕ) (table : List ℕ) where
  pub corners_triangles : kind ≡ TrianglesCase → CornersRead 3 (triangles_with v t C W) r table → CornersRead (corners_per_of (kind_is kind)) (held_in (kind_is kind) v t e C W E L) r table
  unfolding elements_in
  corners_triangles q F = rw q F

  pub corners_straps : kind ≡ StrapsCase → CornersRead 2 (straps_with v e E L) r table → CornersRead (corners_per_of (kind_is kind)) (held_in (kind_is kind) v t e C W E L) r table
  unfolding elements_in
  corners_straps q F = rw q F

  pub corners_nothing : kind ≡ NothingCase → r ≡ 0 → CornersRead (corners_per_of (kind_is kind)) (held_in (kind_is kind) v t e C W E L) r table
  unfolding elements_in sift
  corners_nothing q z = rw (q, z) (corners_none 2 table)
