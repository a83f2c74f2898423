-- Sums of measures, an element a turn, and that of an accepted mesh. Assumes nothing.
use Prim.Native.Nat.{ℕ, ◌+◌, ◌*◌, ◌/◌}
use native.Mathlib.Omega.{arith}
use native.Mathlib.Numerals.{add-one}
use borrow.Author.Tests.{eq-eqb, ne_eqb}
use mathlib.Core.Path.{◌≡◌, refl, sym, ◌∙◌, ap}
use mathlib.Core.List.{List, [], ◌∷◌, ◌++◌, map, map-append, append-nil}
use lib.Dec.{eqb}
use lib.ListN.{length, get_or}
use lib.Ieee.{Float, nan}
use Rattle.lists.specs.Lists.{pick, tab}
use Rattle.lists.proofs.Stores.{tab_length}
use Rattle.lists.proofs.Sifts.{tab_suc}
use Rattle.float.specs.Numbers.{abs_of, plus, zero32}
use Rattle.columns.specs.Block.{cell}
use Rattle.model.specs.Mesh.{Edge}
use Rattle.model.specs.Elements.{Kind, Element, kind_of, elements_of, triangles_from, straps_from, strap_element, structural?, sum, rest_measure}
use Rattle.mesh.specs.At.{edge_row, triangles_at, edges_at}
use Rattle.mesh.specs.Given.{Given, mesh_of}
use Rattle.elements.specs.declared.Kind.{Kind as KindCase}
use Rattle.elements.specs.declared.Kind.TheVariants.{Triangles as TrianglesCase, Straps as StrapsCase, Nothing as NothingCase}
use Rattle.elements.specs.Table.{kind_is, elements_in, KindFound}
use Rattle.elements.proofs.Filling.{triangle_at, triangles_more, straps_push}
use Rattle.elements.proofs.Measures.{sum_push, sum_none}
use Rattle.mesh_tables.specs.Accepted.{Accepted}
use Rattle.mesh_tables.proofs.Accepted.{kind_is_lem, same_elements}

-- the sum of elements
abbrev pub summed : List Element → Float
summed es = sum (map (λ (x : Element). x.measure) es)

summed_push : (es : List Element) (x : Element) → summed (es ++ (x ∷ [])) ≡ plus (summed es) x.measure
summed_push es x =
    ap sum (map-append (λ (y : Element). y.measure) es (x ∷ [])) ∙ sum_push (map (λ (y : Element). y.measure) es) x.measure

-- ---- triangles

pub triangles_none : (C : List ℕ) (W : List Float) → summed (triangles_from 0 (triangles_at 0 C W)) ≡ zero32
unfolding triangles_from triangles_at tab
triangles_none C W = sum_none

pub triangles_sum : (C : List ℕ) (W : List Float) (i : ℕ) → summed (triangles_from 0 (triangles_at (i + 1) C W)) ≡ plus (summed (triangles_from 0 (triangles_at i C W))) (abs_of (get_or W i nan))
triangles_sum C W i = ap summed (triangles_more C W i) ∙ summed_push (triangles_from 0 (triangles_at i C W)) (triangle_at C W i)

-- ---- straps

pub straps_none : (E : List ℕ) (L : List Float) → summed (straps_from 0 (edges_at 0 E L)) ≡ zero32
unfolding straps_from edges_at tab
straps_none E L = sum_none

module _ (E : List ℕ) (L : List Float) (i : ℕ) where
  abbrev row : ℕ → Edge
  row = edge_row (length E / 4) (length L / 4) E L

  one_more : straps_from 0 (edges_at (i + 1) E L) ≡ straps_from 0 (edges_at i E L) ++ pick (eqb (get_or E (2 * (length E / 4) + i) 0) 1) (strap_element i (row i) ∷ []) []
  unfolding edges_at cell
  one_more =
      let e : 0 + length (tab i row) ≡ i = omega (arith, tab_length i row) in
      ap (λ (j : ℕ). straps_from 0 (tab j row)) (add-one i) ∙ ap (straps_from 0) (tab_suc i row) ∙ straps_push 0 (tab i row) (row i)
      ∙ ap (λ (j : ℕ). straps_from 0 (tab i row) ++ pick (structural? (row i)) (strap_element j (row i) ∷ []) []) e

  long_as : (strap_element i (row i)).measure ≡ get_or L (length L / 4 + i) nan
  unfolding cell
  long_as = let v : 1 * (length L / 4) + i ≡ length L / 4 + i = omega arith in ap (λ (j : ℕ). get_or L j nan) v

  pub straps_take : get_or E (2 * (length E / 4) + i) 0 ≡ 1 → summed (straps_from 0 (edges_at (i + 1) E L)) ≡ plus (summed (straps_from 0 (edges_at i E L))) (get_or L (length L / 4 + i) nan)
  straps_take t =
      let e : straps_from 0 (edges_at (i + 1) E L) ≡ straps_from 0 (edges_at i E L) ++ (strap_element i (row i) ∷ []) = one_more ∙ rw (eq-eqb _ _ t) refl in
      ap summed e ∙ summed_push (straps_from 0 (edges_at i E L)) (strap_element i (row i)) ∙ ap (λ (x : Float). plus (summed (straps_from 0 (edges_at i E L))) x) long_as

  pub straps_skip : (get_or E (2 * (length E / 4) + i) 0 ≡ 1 → ⊥) → summed (straps_from 0 (edges_at (i + 1) E L)) ≡ summed (straps_from 0 (edges_at i E L))
  straps_skip t =
      let e : straps_from 0 (edges_at (i + 1) E L) ≡ straps_from 0 (edges_at i E L) = one_more ∙ rw (ne_eqb _ _ t) (append-nil (straps_from 0 (edges_at i E L))) in
      ap summed e

-- ---- whichever the kind is

module _ (kind : KindCase) (t e : ℕ) (C : List ℕ) (W : List Float) (E : List ℕ) (L : List Float) {r : Float} where
  pub sum_triangles : kind ≡ TrianglesCase → r ≡ summed (triangles_from 0 (triangles_at t C W)) → r ≡ summed (elements_in (kind_is kind) (triangles_at t C W) (edges_at e E L))
  unfolding elements_in
  sum_triangles q h = rw q h

  pub sum_straps : kind ≡ StrapsCase → r ≡ summed (straps_from 0 (edges_at e E L)) → r ≡ summed (elements_in (kind_is kind) (triangles_at t C W) (edges_at e E L))
  unfolding elements_in
  sum_straps q h = rw q h

  pub sum_nothing : kind ≡ NothingCase → r ≡ zero32 → r ≡ summed (elements_in (kind_is kind) (triangles_at t C W) (edges_at e E L))
  unfolding elements_in
  sum_nothing q h = rw q (h ∙ sym sum_none)

-- ---- an accepted mesh

pub whole_found : {G : Given} (kind : KindCase) {r : Float} → Accepted G → KindFound (length G.corners / 3) (length G.ends / 4) G.ends kind
    → r ≡ summed (elements_in (kind_is kind) (triangles_at (length G.corners / 3) G.corners G.volumes) (edges_at (length G.ends / 4) G.ends G.lengths)) → r ≡ rest_measure (mesh_of G)
unfolding rest_measure
whole_found {G} kind A F e =
    e
    ∙ ap (λ (K : Kind). summed (elements_in K (triangles_at (length G.corners / 3) G.corners G.volumes) (edges_at (length G.ends / 4) G.ends G.lengths))) (kind_is_lem G A kind F)
    ∙ ap summed (sym (same_elements G A (kind_of (mesh_of G))))
