-- The elements that hold a particle, counted row by row; and the sides that are given for them. Assumes nothing.
use Prim.Native.Nat.{ℕ, ◌+◌, ◌*◌, ◌/◌, ◌≤◌}
use native.Mathlib.Omega.{arith}
use mathlib.Core.Path.{◌≡◌, refl, sym, ap, ◌∙◌}
use mathlib.Core.Bool.{Bool, true, false, ◌&&◌}
use mathlib.Core.List.{List, [], ◌∷◌, ◌++◌, append-nil}
use borrow.Author.Tests.{eq-eqb, ne_eqb}
use lib.Dec.{eqb, ltb}
use lib.ListN.{length, get_or, length-append}
use lib.Ieee.{Float}
use Rattle.lists.specs.Lists.{pick, stands, all, sift, tab}
use Rattle.lists.proofs.Sifts.{sift_append}
use Rattle.lists.proofs.Steps.{tab_step}
use Rattle.columns.specs.Block.{cell}
use Rattle.model.specs.Mesh.{Mesh, Edge}
use Rattle.model.specs.Elements.{Kind, Element, kind_of, fan_of, triangles_from, straps_from, structural?, strap_element, ends_of}
use Rattle.model.specs.Calls.{sides_ok}
use Rattle.mesh.specs.At.{edge_row, triangles_at, edges_at, mesh_at}
use Rattle.mesh.specs.declared.Counts.{Counts}
use Rattle.mesh.proofs.Lists.{particles_length}
use Rattle.elements.specs.declared.Kind.{Kind as KindCase}
use Rattle.elements.specs.Table.{holding, kind_is, elements_in, KindFound}
use Rattle.elements.proofs.Found.{elements_in_lem}
use Rattle.elements.proofs.Filling.{triangles_more, triangle_at, straps_push}
use Rattle.mesh_calls.specs.Fans.{FanCounted}

-- ---- one row

-- v stands first
pub first_held : (v a : ℕ) (l : List ℕ) → a ≡ v → ◌≡◌ {A = ℕ} 1 (pick (stands v (a ∷ l)) 1 0)
first_held v a l e = sym (ap (λ (t : Bool). pick (pick t true (stands v l)) 1 0) (eq-eqb a v e))

-- or it does not
pub next_held : (v a : ℕ) (l : List ℕ) (r : ℕ) → (a ≡ v → ⊥) → r ≡ pick (stands v l) 1 0 → r ≡ pick (stands v (a ∷ l)) 1 0
next_held v a l r h q = q ∙ sym (ap (λ (t : Bool). pick (pick t true (stands v l)) 1 0) (ne_eqb a v h))

-- an edge that is no strap, and one that is
pub no_strap : (s : ℕ) (t : Bool) → (s ≡ 1 → ⊥) → ◌≡◌ {A = ℕ} 0 (pick (eqb s 1 && t) 1 0)
no_strap s t h = sym (ap (λ (b : Bool). pick (b && t) 1 0) (ne_eqb s 1 h))

pub strap_held : (s : ℕ) (t : Bool) (r : ℕ) → s ≡ 1 → r ≡ pick t 1 0 → r ≡ pick (eqb s 1 && t) 1 0
strap_held s t r e q = q ∙ sym (ap (λ (b : Bool). pick (b && t) 1 0) (eq-eqb s 1 e))

-- ---- the rows

-- one more element: it counts where it holds v
held_push : (v : ℕ) (es : List Element) (e : Element) (n : ℕ) → n ≡ length (holding v es) → n + pick (stands v e.corners) 1 0 ≡ length (holding v (es ++ (e ∷ [])))
unfolding sift
held_push v es e n q =
    ap (λ (m : ℕ). m + pick (stands v e.corners) 1 0) q ∙ ap (λ (m : ℕ). length (holding v es) + m) (one (stands v e.corners))
    ∙ sym (length-append (holding v es) (holding v (e ∷ []))) ∙ ap length (sym (sift_append (λ (x : Element). stands v x.corners) es (e ∷ [])))
  where
    one : (t : Bool) → pick t 1 0 ≡ length (pick t (e ∷ []) [])
    one true = refl
    one false = refl

-- one more row: its element counts where it is one, and holds v
held_pick : (v : ℕ) (es : List Element) (e : Element) (t : Bool) (n : ℕ) → n ≡ length (holding v es) → n + pick (t && stands v e.corners) 1 0 ≡ length (holding v (es ++ pick t (e ∷ []) []))
held_pick v es e true n q = held_push v es e n q
held_pick v es e false n q = let z : n + 0 ≡ n = omega arith in z ∙ q ∙ ap (λ (l : List Element). length (holding v l)) (sym (append-nil es))

-- an edge as the program reads it
strap_told : (v i : ℕ) (E : List ℕ) (L : List Float)
    → (eqb (get_or E (2 * (length E / 4) + i) 0) 1 && stands v (get_or E i 0 ∷ get_or E (length E / 4 + i) 0 ∷ []))
    ≡ (structural? (edge_row (length E / 4) (length L / 4) E L i) && stands v (ends_of (edge_row (length E / 4) (length L / 4) E L i)))
unfolding cell
strap_told v i E L =
    let a : 0 * (length E / 4) + i ≡ i = omega arith in
    let b : 1 * (length E / 4) + i ≡ length E / 4 + i = omega arith in
    rw (a, b) refl

module _ (v i n r : ℕ) where
  -- one triangle more
  pub triangle_counts : (C : List ℕ) (W : List Float) → n ≡ length (holding v (triangles_from 0 (triangles_at i C W)))
      → r ≡ pick (stands v (get_or C i 0 ∷ get_or C (length C / 3 + i) 0 ∷ get_or C (2 * (length C / 3) + i) 0 ∷ [])) 1 0 → n + r ≡ length (holding v (triangles_from 0 (triangles_at (i + 1) C W)))
  triangle_counts C W q e =
      ap (λ (m : ℕ). n + m) e ∙ held_push v (triangles_from 0 (triangles_at i C W)) (triangle_at C W i) n q
      ∙ ap (λ (es : List Element). length (holding v es)) (sym (triangles_more C W i))

  -- one edge more
  pub strap_counts : (E : List ℕ) (L : List Float) → n ≡ length (holding v (straps_from 0 (edges_at i E L)))
      → r ≡ pick (eqb (get_or E (2 * (length E / 4) + i) 0) 1 && stands v (get_or E i 0 ∷ get_or E (length E / 4 + i) 0 ∷ [])) 1 0 → n + r ≡ length (holding v (straps_from 0 (edges_at (i + 1) E L)))
  unfolding edges_at
  strap_counts E L q e =
      let row : ℕ → Edge = edge_row (length E / 4) (length L / 4) E L in
      let el : Element = strap_element (0 + length (tab i row)) (row i) in
      ap (λ (m : ℕ). n + m) (e ∙ ap (λ (t : Bool). pick t 1 0) (strap_told v i E L))
      ∙ held_pick v (straps_from 0 (tab i row)) el (structural? (row i)) n q
      ∙ ap (λ (es : List Element). length (holding v es)) (sym (ap (straps_from 0) (tab_step row i) ∙ straps_push 0 (tab i row) (row i)))

-- before the first row, and behind the last
pub no_triangles : (v : ℕ) (C : List ℕ) (W : List Float) → 0 ≡ length (holding v (triangles_from 0 (triangles_at 0 C W)))
unfolding triangles_at triangles_from sift tab
no_triangles v C W = refl

pub no_edges : (v : ℕ) (E : List ℕ) (L : List Float) → 0 ≡ length (holding v (straps_from 0 (edges_at 0 E L)))
unfolding edges_at straps_from sift tab
no_edges v E L = refl

pub count_ends : (f : ℕ → ℕ) (n i t : ℕ) → n ≡ f i → i ≤ t → t ≤ i → n ≡ f t
count_ends f n i t e g h = let q : i ≡ t = omega arith in e ∙ ap f q

-- ---- the fan

module _ (v : ℕ) (k : Counts) (points : List Float) (roots corners : List ℕ) (volumes : List Float) (ends : List ℕ) (lengths : List Float) (outline : List ℕ) where
  abbrev here : Mesh
  here = mesh_at k points roots corners volumes ends lengths outline

  -- what was counted of the kind's elements is the fan
  pub fan_counted : (kind K : KindCase) (r : ℕ) → KindFound k.triangles k.edges ends kind → kind ≡ K
      → r ≡ length (holding v (elements_in (kind_is K) (triangles_at k.triangles corners volumes) (edges_at k.edges ends lengths))) → r ≡ length (fan_of (kind_of here) here v)
  unfolding kind_of mesh_at fan_of
  fan_counted kind K r F e q =
      q ∙ ap (λ (T : KindCase). length (holding v (elements_in (kind_is T) (triangles_at k.triangles corners volumes) (edges_at k.edges ends lengths)))) (sym e)
      ∙ ap (λ (T : Kind). length (holding v (elements_in T (triangles_at k.triangles corners volumes) (edges_at k.edges ends lengths)))) (F.is corners volumes lengths)
      ∙ ap (λ (es : List Element). length (holding v es)) (sym (elements_in_lem (kind_of here) here))

  -- the test of the sides is the definition's
  pub sides_told : (sides : List ℕ) (fan : ℕ) (t : Bool) → FanCounted v k corners ends fan → t ≡ (ltb v k.particles && all (λ s. ltb s 2) sides && eqb (length sides) fan) → t ≡ sides_ok here v sides
  unfolding sides_ok mesh_at
  sides_told sides fan t F e =
      e ∙ ap (λ (p : ℕ). ltb v p && all (λ s. ltb s 2) sides && eqb (length sides) fan) (sym (particles_length k.particles points roots))
      ∙ ap (λ (c : ℕ). ltb v (length here.particles) && all (λ s. ltb s 2) sides && eqb (length sides) c) (F points roots volumes lengths outline)
