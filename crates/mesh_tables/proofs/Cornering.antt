-- Corners in a table, a row a turn, and those of an accepted mesh. Assumes nothing.
use Prim.Native.Nat.{ℕ, zero, suc, ◌+◌, ◌*◌, ◌/◌, ◌<◌, ◌≤◌}
use native.Mathlib.Omega.{arith}
use mathlib.Core.Path.{◌≡◌, refl, sym, ◌∙◌, ap, subst}
use mathlib.Core.List.{List, [], ◌∷◌, ◌++◌, map}
use lib.ListN.{length, get_or, take, set, length-map, length-append, replicate}
use lib.Seq.{take_at}
use lib.Ieee.{Float, nan}
use Rattle.model.specs.Elements.{Kind, Element, kind_of, elements_of, corners_per_of, triangles_from, straps_from, facet_others_of}
use Rattle.model.specs.Pieces.{piece_count, pieces}
use Rattle.mesh.specs.At.{triangles_at, edges_at}
use Rattle.mesh.specs.Given.{Given, mesh_of}
use Rattle.elements.specs.declared.Kind.{Kind as KindCase}
use Rattle.elements.specs.declared.Kind.TheVariants.{Triangles as TrianglesCase, Straps as StrapsCase, Nothing as NothingCase}
use Rattle.elements.specs.Table.{kind_is, elements_in, KindFound, Cornered, Tabled}
use Rattle.elements.proofs.Filling.{Filling, Strapping, triangling_start, triangling_more, strapping_start, strapping_skip, strapping_take, table_triangles, table_straps, table_nothing}
use Rattle.reach.proofs.Reached.{plain_elements}
use Rattle.pieces.specs.Counted.{SidesLent, PieceNumber}
use Rattle.piece_classes.proofs.Pieces.{two_corners}
use Rattle.mesh_tables.specs.Accepted.{Accepted, MeshTabled}
use Rattle.mesh_tables.specs.Cornering.{TriangleCorners, StrapCorners, KindCorners, CornerRoom, MeshCornered}
use Rattle.mesh_tables.proofs.Accepted.{sizes_of, mesh_tabled}

-- ---- any corners are those of a table with numbers and measures

abbrev numbers_of : List Element → List ℕ
numbers_of es = map (λ (e : Element). e.number) es ++ (0 ∷ [])

abbrev measures_of : List Element → List Float
measures_of es = map (λ (e : Element). e.measure) es ++ (nan ∷ [])

beside : {k : ℕ} {es : List Element} {n : ℕ} {K : List ℕ} → Cornered k es n K → Tabled k es n (numbers_of es) K (measures_of es)
beside {k} {es} {n} C =
    record {
      cornered = C;
      numbers_are = take_at (map (λ (e : Element). e.number) es) (0 ∷ []) n (length-map es (λ (e : Element). e.number) ∙ sym C.count);
      measures_are = take_at (map (λ (e : Element). e.measure) es) (nan ∷ []) n (length-map es (λ (e : Element). e.measure) ∙ sym C.count);
    }

numbers_long : {k : ℕ} {es : List Element} {n : ℕ} {K : List ℕ} → Cornered k es n K → n < length (numbers_of es)
numbers_long {es = es} C = omega (arith, C.count, length-map es (λ (e : Element). e.number), length-append (map (λ (e : Element). e.number) es) (0 ∷ []))

measures_long : {k : ℕ} {es : List Element} {n : ℕ} {K : List ℕ} → Cornered k es n K → n < length (measures_of es)
measures_long {es = es} C = omega (arith, C.count, length-map es (λ (e : Element). e.measure), length-append (map (λ (e : Element). e.measure) es) (nan ∷ []))

filled : {k : ℕ} {es : List Element} {n o : ℕ} {K : List ℕ} → o ≡ n * k → (C : Cornered k es n K) → Filling k es n o (numbers_of es) K (measures_of es) (numbers_of es) K (measures_of es)
filled at C = record { tabled = beside C; at = at; numbers_long = refl; verts_long = refl; measures_long = refl }

-- ---- a row more

pub triangle_corners_none : (C K : List ℕ) → TriangleCorners 0 C K
triangle_corners_none C K = record { are = λ W. (triangling_start C W [] K []).tabled.cornered }

pub triangle_corners_more : (C K : List ℕ) (i o : ℕ) → TriangleCorners i C K → o ≡ i * 3 → o + 3 ≤ length K
    → TriangleCorners (i + 1) C (set (set (set K o (get_or C i 0)) (o + 1) (get_or C (length C / 3 + i) 0)) (o + 2) (get_or C (2 * (length C / 3) + i) 0))
triangle_corners_more C K i o T at l =
    record {
      are = λ W.
          let A = T.are W in
          (triangling_more C W i o _ _ _ _ K _ _ (filled at A) (numbers_long A) (measures_long A) l refl).tabled.cornered;
    }

pub strap_corners_none : (E K : List ℕ) → StrapCorners 0 E 0 K
strap_corners_none E K = record { are = λ L. (strapping_start E L [] K []).filling.tabled.cornered }

module _ (E K : List ℕ) (i n o : ℕ) (T : StrapCorners i E n K) (at : o ≡ n * 2) (below : n ≤ i) where
  strapped : (L : List Float)
      → Strapping E L i n o (numbers_of (straps_from 0 (edges_at i E L))) K (measures_of (straps_from 0 (edges_at i E L))) (numbers_of (straps_from 0 (edges_at i E L))) K (measures_of (straps_from 0 (edges_at i E L)))
  strapped L = record { filling = filled at (T.are L); below = below }

  pub strap_corners_skip : (get_or E (2 * (length E / 4) + i) 0 ≡ 1 → ⊥) → StrapCorners (i + 1) E n K
  strap_corners_skip t = record { are = λ L. (strapping_skip E L i n o _ _ _ _ K _ (strapped L) t).filling.tabled.cornered }

  pub strap_corners_take : get_or E (2 * (length E / 4) + i) 0 ≡ 1 → o + 2 ≤ length K
      → StrapCorners (i + 1) E (n + 1) (set (set K o (get_or E i 0)) (o + 1) (get_or E (length E / 4 + i) 0))
  strap_corners_take t l =
      record { are = λ L. (strapping_take E L i n o _ _ _ _ K _ (strapped L) t (numbers_long (T.are L)) (measures_long (T.are L)) l).filling.tabled.cornered }

-- ---- whichever the kind is

module _ (kind : KindCase) (t e : ℕ) (C E : List ℕ) (n : ℕ) (K : List ℕ) where
  pub kind_triangles : kind ≡ TrianglesCase → n ≡ t → TriangleCorners t C K → KindCorners (kind_is kind) t e C E n K
  kind_triangles q z T =
      record { are = λ W L. (table_triangles kind (triangles_at t C W) (edges_at e E L) n _ K _ q (subst (λ (m : ℕ). Tabled 3 (triangles_from 0 (triangles_at t C W)) m (numbers_of (triangles_from 0 (triangles_at t C W))) K (measures_of (triangles_from 0 (triangles_at t C W)))) (sym z) (beside (T.are W)))).cornered }

  pub kind_straps : kind ≡ StrapsCase → StrapCorners e E n K → KindCorners (kind_is kind) t e C E n K
  kind_straps q T = record { are = λ W L. (table_straps kind (triangles_at t C W) (edges_at e E L) n _ K _ q (beside (T.are L))).cornered }

  pub kind_nothing : kind ≡ NothingCase → n ≡ 0 → KindCorners (kind_is kind) t e C E n K
  kind_nothing q z = record { are = λ W L. (table_nothing kind (triangles_at t C W) (edges_at e E L) n [] K [] q z).cornered }

-- ---- an accepted mesh

-- a table of 4,096 corners has room for them
pub corner_room : {G : Given} {lk : ℕ} → Accepted G → 4096 ≤ lk → CornerRoom (length G.corners / 3) (length G.ends / 4) (length G.corners) (length G.ends) lk
corner_room A l =
    let s = sizes_of A in
    record { corners = omega arith; ends = omega arith; verts = (omega (arith, s.few_triangles), omega (arith, s.few_edges)) }

-- the corners of the kind's elements are the mesh's
pub mesh_cornered : {G : Given} (kind : KindCase) (n k : ℕ) (Y : List ℕ) → Accepted G → KindFound (length G.corners / 3) (length G.ends / 4) G.ends kind
    → KindCorners (kind_is kind) (length G.corners / 3) (length G.ends / 4) G.corners G.ends n Y → k ≡ corners_per_of (kind_is kind) → MeshCornered G n k Y
mesh_cornered {G} kind n k Y A F T ek =
    let M = mesh_tabled G A kind n k (facet_others_of (kind_is kind)) _ Y _ F (beside (T.are G.volumes G.lengths)) ek refl in
    record { per = M.per; cornered = M.tabled.cornered; corners = M.corners; narrow = M.narrow }

-- ---- their pieces

-- a new table has 0 in every place
pub blank : (n h : ℕ) → get_or (replicate {A = ℕ} n 0) h 0 ≡ 0
blank zero h = refl
blank (suc n) zero = refl
blank (suc n) (suc h) = blank n h

-- the corners meet what the count of pieces asks, with empty chains and room for each corner and each element
pub sides_lent : {G : Given} {n k links lows places : ℕ} {Y heads : List ℕ} → MeshCornered G n k Y → length heads ≡ 4096 → ((h : ℕ) → get_or heads h 0 ≡ 0) → n * k ≤ links → n * k ≤ lows → places ≡ n
    → SidesLent n k Y heads links lows places
sides_lent {G} M long empty a b e =
    record {
      corners = M.corners;
      two = (let h = two_corners (kind_of (mesh_of G)) in omega (arith, M.per));
      few = M.narrow;
      heads_long = long;
      empty = empty;
      links_long = a;
      lows_long = b;
      places_long = e;
    }

-- the pieces of the table are the mesh's
pub number_found : {G : Given} {n k : ℕ} {Y : List ℕ} {r : ℕ} → Accepted G → MeshCornered G n k Y → PieceNumber n k Y r → r ≡ pieces (mesh_of G)
unfolding pieces
number_found {G} A M P =
    let es = elements_of (kind_of (mesh_of G)) (mesh_of G) in
    P.counted es M.cornered (plain_elements (kind_of (mesh_of G)) (mesh_of G) A.indices) ∙ ap (λ (m : ℕ). piece_count m es) M.per
