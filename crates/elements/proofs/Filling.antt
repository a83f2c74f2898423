-- Tables that a loop fills, a row a turn: the triangles of a block, and its straps. Assumes nothing.
use mathlib.Core.Path.{◌≡◌, refl, ◌∙◌, ap}
use mathlib.Core.List.{List, [], ◌∷◌, ◌++◌, append-nil, append_assoc}
use Prim.Native.Nat.{ℕ, suc, ◌+◌, ◌*◌, ◌/◌, ◌<◌, ◌≤◌, suc-le-suc}
use native.Mathlib.Numerals.{add-one}
use native.Mathlib.Omega.{arith}
use borrow.Author.Tests.{eq-eqb, ne_eqb}
use lib.Dec.{eqb}
use lib.ListN.{length, get_or, take, set, length-set}
use lib.Ieee.{Float, nan}
use Rattle.lists.specs.Lists.{pick, tab}
use Rattle.lists.proofs.Stores.{tab_length}
use Rattle.lists.proofs.Sifts.{pick_by, pick_ap, tab_suc}
use Rattle.float.specs.Numbers.{abs_of}
use Rattle.columns.specs.Block.{cell}
use Rattle.columns.proofs.Sweep.{front_grows}
use Rattle.model.specs.Mesh.{Triangle, Edge}
use Rattle.model.specs.Elements.{Kind, Triangles, Straps, Nothing, Element, structural?, triangle_element, strap_element, triangles_from, straps_from, corners_per_of}
use Rattle.mesh.specs.At.{triangle_row, edge_row, triangles_at, edges_at}
use Rattle.elements.specs.Table.{Tabled, kind_is, elements_in}
use Rattle.elements.specs.declared.Kind.{Kind as KindCase}
use Rattle.elements.specs.declared.Kind.TheVariants.{Triangles as TrianglesCase, Straps as StrapsCase, Nothing as NothingCase}
use Rattle.mesh.proofs.Lists.{edges_length}
use Rattle.elements.proofs.Tables.{tabled_none, tabled_push}

-- at the head of a loop: the tables of n elements, whose corners end at o; the tables keep their lengths
pub record Filling (k : ℕ) (es : List Element) (n o : ℕ) (N₀ K₀ : List ℕ) (M₀ : List Float) (N K : List ℕ) (M : List Float) : Type 0 where
  pub tabled : Tabled k es n N K M
  pub at : o ≡ n * k
  pub numbers_long : length N ≡ length N₀
  pub verts_long : length K ≡ length K₀
  pub measures_long : length M ≡ length M₀

-- before the first turn the tables are of nothing
pub filling_start : (k : ℕ) (N K : List ℕ) (M : List Float) → Filling k [] 0 0 N K M N K M
filling_start k N K M = record { tabled = tabled_none k N K M; at = omega arith; numbers_long = refl; verts_long = refl; measures_long = refl }

-- a row more, however its corners were stored
pub filling_push :
    (k : ℕ) (es : List Element) (n o : ℕ) (N₀ K₀ : List ℕ) (M₀ : List Float) (N K : List ℕ) (M : List Float) (e : Element) (K' : List ℕ)
    → Filling k es n o N₀ K₀ M₀ N K M → length e.corners ≡ k → n < length N → n < length M → length K' ≡ length K → take (o + k) K' ≡ take o K ++ e.corners
    → Filling k (es ++ (e ∷ [])) (n + 1) (o + k) N₀ K₀ M₀ (set N n e.number) K' (set M n e.measure)
filling_push k es n o N₀ K₀ M₀ N K M e K' F l hn hm lk c =
    record {
      tabled = tabled_push k es n N K K' M e F.tabled l hn hm (rw F.at at c);
      at = let a : o ≡ n * k = F.at in omega arith;
      numbers_long = length-set N n e.number ∙ F.numbers_long;
      verts_long = lk ∙ F.verts_long;
      measures_long = length-set M n e.measure ∙ F.measures_long;
    }

-- ---- two and three stores, one behind the other

module _ {A : Type 0} (l : List A) (o : ℕ) (a b : A) where
  pub front_two : o + 2 ≤ length l → take (o + 2) (set (set l o a) (o + 1) b) ≡ take o l ++ (a ∷ b ∷ [])
  front_two h =
      let e : o + 2 ≡ o + 1 + 1 = omega arith in
      let f : take (o + 1) (set l o a) ≡ take o l ++ (a ∷ []) = front_grows l (take o l) o a refl (omega arith) in
      rw e (front_grows (set l o a) (take o l ++ (a ∷ [])) (o + 1) b f (rw length-set (omega arith)) ∙ append_assoc (take o l) (a ∷ []) (b ∷ []))

  pub front_three : (c : A) → o + 3 ≤ length l → take (o + 3) (set (set (set l o a) (o + 1) b) (o + 2) c) ≡ take o l ++ (a ∷ b ∷ c ∷ [])
  front_three c h =
      let e : o + 3 ≡ o + 2 + 1 = omega arith in
      rw e
      (front_grows (set (set l o a) (o + 1) b) (take o l ++ (a ∷ b ∷ [])) (o + 2) c (front_two (omega arith)) (simp length-set (omega arith))
      ∙ append_assoc (take o l) (a ∷ b ∷ []) (c ∷ []))

-- ---- triangles

-- one triangle more
pub triangles_push : (i : ℕ) (ts : List Triangle) (t : Triangle) → triangles_from i (ts ++ (t ∷ [])) ≡ triangles_from i ts ++ (triangle_element (i + length ts) t ∷ [])
unfolding triangles_from
triangles_push i [] t = let e : i ≡ i + 0 = omega arith in ap (λ (j : ℕ). triangle_element j t ∷ []) e
triangles_push i (x ∷ ts) t =
    let e : suc i + length ts ≡ i + suc (length ts) = omega arith in
    ap (λ (l : List Element). triangle_element i x ∷ l) (triangles_push (suc i) ts t ∙ ap (λ (j : ℕ). triangles_from (suc i) ts ++ (triangle_element j t ∷ [])) e)

-- triangle i of a block, as the program reads it
abbrev pub triangle_at : List ℕ → List Float → ℕ → Element
triangle_at C W i =
    record { number = i; corners = get_or C i 0 ∷ get_or C (length C / 3 + i) 0 ∷ get_or C (2 * (length C / 3) + i) 0 ∷ []; measure = abs_of (get_or W i nan) }

-- elements are equal where their parts are
element_path : {i j : ℕ} {l k : List ℕ} {x y : Float} → i ≡ j → l ≡ k → x ≡ y → ◌≡◌ {A = Element} (record { number = i; corners = l; measure = x }) (record { number = j; corners = k; measure = y })
element_path p q r = λ s. record { number = p s; corners = q s; measure = r s }

-- it is the element of row i
triangle_read : (C : List ℕ) (W : List Float) (i : ℕ) → triangle_element i (triangle_row (length C / 3) (length W / 2) C W i) ≡ triangle_at C W i
unfolding cell
triangle_read C W i =
    let a : 0 * (length C / 3) + i ≡ i = omega arith in
    let b : 1 * (length C / 3) + i ≡ length C / 3 + i = omega arith in
    let v : 0 * (length W / 2) + i ≡ i = omega arith in
    element_path refl (rw (a, b) refl) (ap (λ (j : ℕ). abs_of (get_or W j nan)) v)

-- the elements of one row more
pub triangles_more : (C : List ℕ) (W : List Float) (i : ℕ) → triangles_from 0 (triangles_at (i + 1) C W) ≡ triangles_from 0 (triangles_at i C W) ++ (triangle_at C W i ∷ [])
unfolding triangles_at
triangles_more C W i =
    let row : ℕ → Triangle = triangle_row (length C / 3) (length W / 2) C W in
    let e : 0 + length (tab i row) ≡ i = omega (arith, tab_length i row) in
    ap (λ (j : ℕ). triangles_from 0 (tab j row)) (add-one i) ∙ ap (triangles_from 0) (tab_suc i row) ∙ triangles_push 0 (tab i row) (row i)
    ∙ ap (λ (j : ℕ). triangles_from 0 (tab i row) ++ (triangle_element j (row i) ∷ [])) e
    ∙ ap (λ (x : Element). triangles_from 0 (tab i row) ++ (x ∷ [])) (triangle_read C W i)

-- the table of the first i triangles
abbrev pub Triangling : List ℕ → List Float → ℕ → ℕ → List ℕ → List ℕ → List Float → List ℕ → List ℕ → List Float → Type 0
Triangling C W i o N₀ K₀ M₀ N K M = Filling 3 (triangles_from 0 (triangles_at i C W)) i o N₀ K₀ M₀ N K M

-- before the first turn, and at each
pub triangling_start : (C : List ℕ) (W : List Float) (N K : List ℕ) (M : List Float) → Triangling C W 0 0 N K M N K M
unfolding triangles_from triangles_at tab
triangling_start C W N K M = filling_start 3 N K M

pub triangling_more :
    (C : List ℕ) (W : List Float) (i o : ℕ) (N₀ K₀ : List ℕ) (M₀ : List Float) (N K : List ℕ) (M : List Float) (x : Float)
    → Triangling C W i o N₀ K₀ M₀ N K M → i < length N → i < length M → o + 3 ≤ length K → x ≡ abs_of (get_or W i nan)
    → Triangling C W (i + 1) (o + 3) N₀ K₀ M₀ (set N i i) (set (set (set K o (get_or C i 0)) (o + 1) (get_or C (length C / 3 + i) 0)) (o + 2) (get_or C (2 * (length C / 3) + i) 0)) (set M i x)
triangling_more C W i o N₀ K₀ M₀ N K M x F hn hm hk e =
    rw (e, triangles_more)
    (filling_push 3 _ i o N₀ K₀ M₀ N K M (triangle_at C W i) _ F refl hn hm (simp length-set) (front_three K o (get_or C i 0) (get_or C (length C / 3 + i) 0) (get_or C (2 * (length C / 3) + i) 0) hk))

-- ---- straps

-- one edge more: an element where it is structural
pub straps_push : (i : ℕ) (es : List Edge) (e : Edge) → straps_from i (es ++ (e ∷ [])) ≡ straps_from i es ++ pick (structural? e) (strap_element (i + length es) e ∷ []) []
unfolding straps_from
straps_push i [] e = let q : i ≡ i + 0 = omega arith in ap (λ (j : ℕ). pick (structural? e) (strap_element j e ∷ []) []) q
straps_push i (x ∷ es) e =
    let q : suc i + length es ≡ i + suc (length es) = omega arith in
    let r : straps_from (suc i) (es ++ (e ∷ [])) ≡ straps_from (suc i) es ++ pick (structural? e) (strap_element (i + suc (length es)) e ∷ []) [] =
    straps_push (suc i) es e ∙ ap (λ (j : ℕ). straps_from (suc i) es ++ pick (structural? e) (strap_element j e ∷ []) []) q in
    ap (λ (l : List Element). pick (structural? x) (strap_element i x ∷ l) l) r
    ∙ pick_ap (λ (l : List Element). l ++ pick (structural? e) (strap_element (i + suc (length es)) e ∷ []) []) (structural? x) (strap_element i x ∷ straps_from (suc i) es) (straps_from (suc i) es)

-- strap i of a block, as the program reads it
abbrev pub strap_at : List ℕ → List Float → ℕ → Element
strap_at E L i = record { number = i; corners = get_or E i 0 ∷ get_or E (length E / 4 + i) 0 ∷ []; measure = get_or L (length L / 4 + i) nan }

-- it is the element of row i
pub strap_read : (E : List ℕ) (L : List Float) (i : ℕ) → strap_element i (edge_row (length E / 4) (length L / 4) E L i) ≡ strap_at E L i
unfolding cell
strap_read E L i =
    let a : 0 * (length E / 4) + i ≡ i = omega arith in
    let b : 1 * (length E / 4) + i ≡ length E / 4 + i = omega arith in
    let v : 1 * (length L / 4) + i ≡ length L / 4 + i = omega arith in
    element_path refl (rw (a, b) refl) (ap (λ (j : ℕ). get_or L j nan) v)

-- the elements of one row more
straps_on : (E : List ℕ) (L : List Float) (i : ℕ)
    → straps_from 0 (edges_at (i + 1) E L) ≡ straps_from 0 (edges_at i E L) ++ pick (eqb (get_or E (2 * (length E / 4) + i) 0) 1) (strap_at E L i ∷ []) []
unfolding edges_at cell
straps_on E L i =
    let row : ℕ → Edge = edge_row (length E / 4) (length L / 4) E L in
    let e : 0 + length (tab i row) ≡ i = omega (arith, tab_length i row) in
    ap (λ (j : ℕ). straps_from 0 (tab j row)) (add-one i) ∙ ap (straps_from 0) (tab_suc i row) ∙ straps_push 0 (tab i row) (row i)
    ∙ ap (λ (j : ℕ). straps_from 0 (tab i row) ++ pick (structural? (row i)) (strap_element j (row i) ∷ []) []) e
    ∙ ap (λ (x : Element). straps_from 0 (tab i row) ++ pick (structural? (row i)) (x ∷ []) []) (strap_read E L i)

-- the table of the n straps among the first i edges
pub record Strapping (E : List ℕ) (L : List Float) (i n o : ℕ) (N₀ K₀ : List ℕ) (M₀ : List Float) (N K : List ℕ) (M : List Float) : Type 0 where
  pub filling : Filling 2 (straps_from 0 (edges_at i E L)) n o N₀ K₀ M₀ N K M
  pub below : n ≤ i

-- before the first turn
pub strapping_start : (E : List ℕ) (L : List Float) (N K : List ℕ) (M : List Float) → Strapping E L 0 0 0 N K M N K M
unfolding straps_from edges_at tab
strapping_start E L N K M = record { filling = filling_start 2 N K M; below = omega arith }

module _ (E : List ℕ) (L : List Float) (i n o : ℕ) (N₀ K₀ : List ℕ) (M₀ : List Float) (N K : List ℕ) (M : List Float) (F : Strapping E L i n o N₀ K₀ M₀ N K M) where
  -- a turn at an edge that is no strap
  pub strapping_skip : (get_or E (2 * (length E / 4) + i) 0 ≡ 1 → ⊥) → Strapping E L (i + 1) n o N₀ K₀ M₀ N K M
  strapping_skip t =
      let e : straps_from 0 (edges_at (i + 1) E L) ≡ straps_from 0 (edges_at i E L) = straps_on E L i ∙ rw (ne_eqb _ _ t) (append-nil (straps_from 0 (edges_at i E L))) in
      record { filling = rw e F.filling; below = let b : n ≤ i = F.below in omega arith }

  -- a turn at a strap
  pub strapping_take : get_or E (2 * (length E / 4) + i) 0 ≡ 1 → n < length N → n < length M → o + 2 ≤ length K
      → Strapping E L (i + 1) (n + 1) (o + 2) N₀ K₀ M₀ (set N n i) (set (set K o (get_or E i 0)) (o + 1) (get_or E (length E / 4 + i) 0)) (set M n (get_or L (length L / 4 + i) nan))
  strapping_take t hn hm hk =
      let e : straps_from 0 (edges_at (i + 1) E L) ≡ straps_from 0 (edges_at i E L) ++ (strap_at E L i ∷ []) = straps_on E L i ∙ rw (eq-eqb _ _ t) refl in
      record {
        filling = rw e (filling_push 2 _ n o N₀ K₀ M₀ N K M (strap_at E L i) _ F.filling refl hn hm (simp length-set) (front_two K o (get_or E i 0) (get_or E (length E / 4 + i) 0) hk));
        below = let b : n ≤ i = F.below in omega arith;
      }

  -- after the last turn
  pub strapping_done : (e : ℕ) → i ≤ e → e ≤ i → Tabled 2 (straps_from 0 (edges_at e E L)) n N K M
  strapping_done e g h = let q : e ≡ i = omega arith in rw q F.filling.tabled

-- after the last turn
pub triangling_done :
    (C : List ℕ) (W : List Float) (i o t : ℕ) (N₀ K₀ : List ℕ) (M₀ : List Float) (N K : List ℕ) (M : List Float)
    → Triangling C W i o N₀ K₀ M₀ N K M → i ≤ t → t ≤ i → Tabled 3 (triangles_from 0 (triangles_at t C W)) t N K M
triangling_done C W i o t N₀ K₀ M₀ N K M F g h = let q : t ≡ i = omega arith in rw q F.tabled

-- ---- whichever the kind is

module _ (kind : KindCase) (ts : List Triangle) (es : List Edge) (n : ℕ) (N K : List ℕ) (M : List Float) where
  pub table_triangles : kind ≡ TrianglesCase → Tabled 3 (triangles_from 0 ts) n N K M → Tabled (corners_per_of (kind_is kind)) (elements_in (kind_is kind) ts es) n N K M
  unfolding elements_in
  table_triangles e T = rw e T

  pub table_straps : kind ≡ StrapsCase → Tabled 2 (straps_from 0 es) n N K M → Tabled (corners_per_of (kind_is kind)) (elements_in (kind_is kind) ts es) n N K M
  unfolding elements_in
  table_straps e T = rw e T

  pub table_nothing : kind ≡ NothingCase → n ≡ 0 → Tabled (corners_per_of (kind_is kind)) (elements_in (kind_is kind) ts es) n N K M
  unfolding elements_in
  table_nothing e z = rw (e, z) (tabled_none 2 N K M)

-- ---- how many they are

-- as many as there are triangles; no more than there are edges
pub triangles_length : (i : ℕ) (ts : List Triangle) → length (triangles_from i ts) ≡ length ts
unfolding triangles_from
triangles_length i [] = refl
triangles_length i (t ∷ ts) = ap suc (triangles_length (suc i) ts)

pub straps_length : (i : ℕ) (es : List Edge) → length (straps_from i es) ≤ length es
unfolding straps_from
straps_length i [] = omega arith
straps_length i (e ∷ es) =
    let h = straps_length (suc i) es in
    pick_by (λ (l : List Element). length l ≤ suc (length es)) (structural? e) (suc-le-suc h) (omega arith)

-- a table of a mesh within the limits has at most 2048 rows
pub table_few : (kind : Kind) (t e : ℕ) (C : List ℕ) (W : List Float) (E : List ℕ) (L : List Float) (k n : ℕ) (N K : List ℕ) (M : List Float)
    → t ≤ 1024 → e ≤ 2048 → Tabled k (elements_in kind (triangles_at t C W) (edges_at e E L)) n N K M → n ≤ 2048
unfolding elements_in triangles_at
table_few Triangles t e C W E L k n N K M ht he T = omega (arith, T.cornered.count, triangles_length 0 (triangles_at t C W), tab_length t (triangle_row (length C / 3) (length W / 2) C W))
table_few Straps t e C W E L k n N K M ht he T = omega (arith, T.cornered.count, straps_length 0 (edges_at e E L), edges_length e E L)
table_few Nothing t e C W E L k n N K M ht he T = omega (arith, T.cornered.count)
