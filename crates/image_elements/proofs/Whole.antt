-- The table of an image's elements is that of its mesh. Assumes nothing.
use Prim.Native.Nat.{ℕ, suc, ◌+◌, ◌*◌, ◌/◌, ◌≤◌}
use native.Mathlib.Omega.{arith}
use mathlib.Core.Path.{◌≡◌, refl, sym, ◌∙◌, ap, subst}
use mathlib.Core.Bool.{Bool, true, false}
use mathlib.Core.List.{List, [], ◌∷◌}
use lib.ListN.{length}
use lib.Ieee.{Float}
use Rattle.lists.specs.Lists.{tab, any, pick}
use Rattle.lists.proofs.Sifts.{or_false}
use Rattle.model.specs.Mesh.{Triangle, Edge, Mesh}
use Rattle.model.specs.Valid.{indices_fit_of}
use Rattle.model.specs.Elements.{Kind, Element, structural?, strap_element, kind_by, kind_of, elements_of, triangles_from, straps_from, corners_per_of, facet_others_of}
use Rattle.mesh.specs.At.{triangles_at, edges_at, mesh_at}
use Rattle.mesh.specs.Given.{mesh_of}
use Rattle.mesh.specs.Widths.{particle_words}
use Rattle.elements.specs.Table.{Tabled}
use Rattle.elements.specs.declared.Kind.TheVariants.{Triangles as TrianglesCase}
use Rattle.elements.proofs.Found.{kind_triangles}
use Rattle.elements.proofs.Filling.{table_triangles}
use Rattle.mesh_tables.specs.Accepted.{Accepted, MeshTabled}
use Rattle.mesh_tables.proofs.Accepted.{mesh_tabled, table_told}
use Rattle.image.specs.Words.{word_at_of, words_from, numbers_from}
use Rattle.image.specs.Image.{image_of, blocks_in, image_sized_of}
use Rattle.image.specs.Loads.{Loadable}
use Rattle.image.proofs.Loading.{sized_input, sized_loadable}
use Rattle.image_elements.specs.Room.{ElementsRoom, RowsRoom}
use Rattle.image.proofs.InBlocks.{words_long}

-- ---- a mesh without triangles

-- no edge is structural: there are no straps
no_straps : (i : ℕ) (es : List Edge) → any structural? es ≡ false → straps_from i es ≡ []
unfolding straps_from any
no_straps i [] e = refl
no_straps i (x ∷ es) e =
    let w = or_false (structural? x) (any structural? es) e in
    ap (λ (b : Bool). pick b (strap_element i x ∷ straps_from (suc i) es) (straps_from (suc i) es)) w.0 ∙ no_straps (suc i) es w.1

-- what a mesh of kind K has where its elements are its straps
abbrev Strapped : Mesh → Kind → Type 0
Strapped M K = (2 ≡ corners_per_of K) × (0 ≡ facet_others_of K) × (straps_from 0 M.edges ≡ elements_of K M)

either_strapped : (M : Mesh) (b : Bool) → any structural? M.edges ≡ b → Strapped M (kind_by [] b)
unfolding kind_by elements_of
either_strapped M true e = (refl, refl, refl)
either_strapped M false e = (refl, refl, no_straps 0 M.edges e)

-- its elements are its straps, whether there are any
strapped : (M : Mesh) → M.triangles ≡ [] → Strapped M (kind_of M)
unfolding kind_of
strapped M z = subst (λ (ts : List Triangle). Strapped M (kind_by ts (any structural? M.edges))) (sym z) (either_strapped M (any structural? M.edges) refl)

-- ---- an image

module _ (s : List ℕ) (sized : image_sized_of s ≡ true) (indices : indices_fit_of (mesh_of (image_of s)) ≡ true) where
  pub accepted_image : Accepted (image_of s)
  accepted_image = record { sized = sized_input s sized ∙ sized; indices = indices }

  -- the rows of its triangles, and of its edges, have room
  pub triangles_in : (at t : ℕ) {ln lk lm : ℕ} → at ≡ 4 + particle_words * word_at_of s 0 → t ≡ word_at_of s 1 → ElementsRoom s ln lk lm → RowsRoom 3 5 at t (length s) ln lk lm
  triangles_in at t ea et R =
      record {
        columns = omega (arith, (sized_loadable s sized).long);
        numbers = omega (arith, R.numbers.0);
        verts = omega (arith, R.verts.0);
        measures = omega (arith, R.measures.0);
      }

  pub edges_in : (at e : ℕ) {ln lk lm : ℕ} → at ≡ 4 + particle_words * word_at_of s 0 → e ≡ word_at_of s 2 → ElementsRoom s ln lk lm → RowsRoom 2 8 at e (length s) ln lk lm
  edges_in at e ea ee R =
      record {
        columns = omega (arith, (sized_loadable s sized).long);
        numbers = omega (arith, R.numbers.1);
        verts = omega (arith, R.verts.1);
        measures = omega (arith, R.measures.1);
      }

  -- by its counts
  triangles_by : (n : ℕ) (N Y : List ℕ) (L : List Float) → (word_at_of s 1 ≡ 0 → ⊥)
      → Tabled 3 (triangles_from 0 (triangles_at (word_at_of s 1) (words_from s (4 + particle_words * word_at_of s 0) (3 * word_at_of s 1)) (numbers_from s (4 + particle_words * word_at_of s 0 + 3 * word_at_of s 1) (2 * word_at_of s 1)))) n N Y L
      → MeshTabled (image_of s) n 3 1 N Y L
  unfolding image_of blocks_in
  triangles_by n N Y L some T =
      let C : List ℕ = words_from s (4 + particle_words * word_at_of s 0) (3 * word_at_of s 1) in
      let W : List Float = numbers_from s (4 + particle_words * word_at_of s 0 + 3 * word_at_of s 1) (2 * word_at_of s 1) in
      let l : length C ≡ 3 * word_at_of s 1 = words_long s (4 + particle_words * word_at_of s 0) (3 * word_at_of s 1) in
      let q : word_at_of s 1 ≡ length C / 3 = omega arith in
      mesh_tabled (image_of s) accepted_image TrianglesCase n 3 1 N Y L (kind_triangles _ _ _ (λ z. some (q ∙ z)))
      (table_triangles TrianglesCase _ _ n N Y L refl (subst (λ (m : ℕ). Tabled 3 (triangles_from 0 (triangles_at m C W)) n N Y L) q T)) refl refl

  straps_by : (n : ℕ) (N Y : List ℕ) (L : List Float) → word_at_of s 1 ≡ 0
      → Tabled 2 (straps_from 0 (edges_at (word_at_of s 2) (words_from s (4 + particle_words * word_at_of s 0 + 5 * word_at_of s 1) (4 * word_at_of s 2)) (numbers_from s (4 + particle_words * word_at_of s 0 + 5 * word_at_of s 1 + 4 * word_at_of s 2) (4 * word_at_of s 2)))) n N Y L
      → MeshTabled (image_of s) n 2 0 N Y L
  unfolding image_of blocks_in mesh_of mesh_at triangles_at tab
  straps_by n N Y L none T =
      let C : List ℕ = words_from s (4 + particle_words * word_at_of s 0) (3 * word_at_of s 1) in
      let E : List ℕ = words_from s (4 + particle_words * word_at_of s 0 + 5 * word_at_of s 1) (4 * word_at_of s 2) in
      let M : Mesh = mesh_of (image_of s) in
      let l : length C ≡ 3 * word_at_of s 1 = words_long s (4 + particle_words * word_at_of s 0) (3 * word_at_of s 1) in
      let m : length E ≡ 4 * word_at_of s 2 = words_long s (4 + particle_words * word_at_of s 0 + 5 * word_at_of s 1) (4 * word_at_of s 2) in
      let q : word_at_of s 2 ≡ length E / 4 = omega arith in
      let z : length C / 3 ≡ 0 = omega arith in
      let w = strapped M (ap (λ (k : ℕ). triangles_at k C (image_of s).volumes) z) in
      let T' : Tabled 2 (straps_from 0 M.edges) n N Y L = subst (λ (k : ℕ). Tabled 2 (straps_from 0 (edges_at k E (image_of s).lengths)) n N Y L) q T in
      table_told (image_of s) accepted_image n 2 0 N Y L w.0 w.1 (subst (λ (es : List Element). Tabled 2 es n N Y L) w.2 T')

  -- by numbers equal to them
  pub triangles_told : (at t : ℕ) (N Y : List ℕ) (L : List Float) → at ≡ 4 + particle_words * word_at_of s 0 → t ≡ word_at_of s 1 → (t ≡ 0 → ⊥)
      → Tabled 3 (triangles_from 0 (triangles_at t (words_from s at (3 * t)) (numbers_from s (at + 3 * t) (2 * t)))) t N Y L → MeshTabled (image_of s) t 3 1 N Y L
  triangles_told at t N Y L ea et some T =
      triangles_by t N Y L (λ z. some (et ∙ z))
      (subst (λ (m : ℕ). Tabled 3 (triangles_from 0 (triangles_at m (words_from s (4 + particle_words * word_at_of s 0) (3 * m)) (numbers_from s (4 + particle_words * word_at_of s 0 + 3 * m) (2 * m)))) t N Y L) et
      (subst (λ (a : ℕ). Tabled 3 (triangles_from 0 (triangles_at t (words_from s a (3 * t)) (numbers_from s (a + 3 * t) (2 * t)))) t N Y L) ea T))

  pub straps_told : (at t e n : ℕ) (N Y : List ℕ) (L : List Float) → at ≡ 4 + particle_words * word_at_of s 0 → t ≡ word_at_of s 1 → t ≡ 0 → e ≡ word_at_of s 2
      → Tabled 2 (straps_from 0 (edges_at e (words_from s at (4 * e)) (numbers_from s (at + 4 * e) (4 * e)))) n N Y L → MeshTabled (image_of s) n 2 0 N Y L
  straps_told at t e n N Y L ea et none ee T =
      let behind : at ≡ 4 + particle_words * word_at_of s 0 + 5 * word_at_of s 1 = omega arith in
      straps_by n N Y L (sym et ∙ none)
      (subst (λ (m : ℕ). Tabled 2 (straps_from 0 (edges_at m (words_from s (4 + particle_words * word_at_of s 0 + 5 * word_at_of s 1) (4 * m)) (numbers_from s (4 + particle_words * word_at_of s 0 + 5 * word_at_of s 1 + 4 * m) (4 * m)))) n N Y L) ee
      (subst (λ (a : ℕ). Tabled 2 (straps_from 0 (edges_at e (words_from s a (4 * e)) (numbers_from s (a + 4 * e) (4 * e)))) n N Y L) behind T))
