-- What holds of an accepted mesh: its elements name its particles, and it is small enough for the tables.
use Prim.Native.Nat.{ℕ, suc, ◌*◌, ◌/◌, ◌<◌, ◌≤◌, zero-le, suc-le-suc}
use native.Mathlib.Omega.{arith}
use native.Mathlib.Nat.{mul-le-mul_right, zero-mul, suc-mul}
use mathlib.Core.Path.{◌≡◌, refl, sym, ◌∙◌, ap, subst}
use mathlib.Core.Bool.{Bool, true, false, not, ◌&&◌}
use mathlib.Core.List.{List, [], ◌∷◌}
use lib.Dec.{ltb, eqb}
use lib.Ieee.{Float}
use lib.ListN.{length, get_or, take, length-take, length-append}
use lib.Seq.{get_or-take}
use borrow.Author.Tests.{ltb-true}
use Rattle.lists.specs.Lists.{pick, stands, all, each}
use Rattle.lists.proofs.Sifts.{and_true, true_and, all_append, all_get}
use Rattle.lists.proofs.Stores.{tab_length}
use Rattle.model.specs.Mesh.{Triangle, Edge, Mesh}
use Rattle.model.specs.Valid.{named, root_ok, corners_ok, ends_ok, side_ok, indices_fit_of}
use Rattle.model.specs.Elements.{Kind, Triangles, Straps, Nothing, Element, kind_of, elements_of, corners_of, ends_of, structural?, strap_element, triangles_from, straps_from, corners_per_of, facet_others_of, the_rest_measure_of}
use Rattle.mesh.specs.At.{triangle_row, triangles_at, edges_at, mesh_at}
use Rattle.mesh.specs.Given.{Given, mesh_of, sizes}
use Rattle.judge.proofs.Joined.{Sized, sizes_told}
use Rattle.mesh.proofs.Lists.{particles_length, edges_length}
use Rattle.mesh.specs.Widths.{point_columns}
use Rattle.elements.specs.declared.Kind.{Kind as KindCase}
use Rattle.elements.specs.Table.{kind_is, elements_in, KindFound, Cornered, Tabled, TableRoom, FanTabled, MarkRoom, MeasuredWithin}
use Rattle.elements.proofs.Found.{elements_in_lem, fan_of_lem}
use Rattle.elements.proofs.Tables.{Whole}
use Rattle.elements.proofs.Filling.{triangles_length, straps_length}
use Rattle.model.specs.Calls.{strictly, particles_ok}
use Rattle.elements.proofs.Measures.{rest_measure_of_lem}
use Rattle.mesh_tables.specs.Accepted.{Accepted, TableLent, MeshTabled, FanFound}

-- ---- counts

-- the particles are as many as the first column of the points is long
pub particles_count : (G : Given) → length (mesh_of G).particles ≡ length G.points / point_columns
unfolding mesh_of mesh_at
particles_count G = particles_length (sizes G).particles G.points G.roots

triangles_count : (G : Given) → length (mesh_of G).triangles ≡ length G.corners / 3
unfolding mesh_of mesh_at triangles_at
triangles_count G = tab_length (length G.corners / 3) (triangle_row (length G.corners / 3) (length G.volumes / 2) G.corners G.volumes)

edges_count : (G : Given) → length (mesh_of G).edges ≡ length G.ends / 4
unfolding mesh_of mesh_at
edges_count G = edges_length (length G.ends / 4) G.ends G.lengths

-- the sizes of an accepted input
pub sizes_of : {G : Given} → Accepted G → Sized (length G.points) (length G.roots) (length G.corners) (length G.volumes) (length G.ends) (length G.lengths) (length G.outline)
sizes_of A = sizes_told _ _ _ _ _ _ _ A.sized

pub few_particles : {G : Given} → Accepted G → length (mesh_of G).particles ≤ 1024
few_particles {G} A = let s = sizes_of A in omega (arith, particles_count G, s.few_particles)

-- a table of 2048 elements has room for them
pub table_room : {G : Given} {ln lk lm : ℕ} → Accepted G → TableLent ln lk lm
    → TableRoom (length G.corners / 3) (length G.ends / 4) (length G.corners) (length G.volumes) (length G.ends) (length G.lengths) ln lk lm
table_room A L =
    let s = sizes_of A in
    record {
      few = (s.few_triangles, s.few_edges);
      corners = omega arith;
      volumes = omega (arith, s.triangles);
      ends = omega arith;
      lengths = omega (arith, s.edges);
      numbers = (omega (arith, s.few_triangles, L.numbers_long), omega (arith, s.few_edges, L.numbers_long));
      verts = (omega (arith, s.few_triangles, L.verts_long), omega (arith, s.few_edges, L.verts_long));
      measures = (omega (arith, s.few_triangles, L.measures_long), omega (arith, s.few_edges, L.measures_long));
    }

-- ---- corners name particles

-- those of all elements in one list
abbrev pub all_corners : List Element → List ℕ
all_corners es = each (λ (e : Element). e.corners) es

-- names are below the number of particles
named_below : (n : ℕ) (l : List ℕ) → named n l ≡ true → all (λ x. ltb x n) l ≡ true
unfolding named all
named_below n [] e = refl
named_below n (x ∷ l) e =
    let a = and_true (ltb x n && not (stands x l)) (named n l) e in
    true_and (and_true (ltb x n) (not (stands x l)) a.0).0 (named_below n l a.1)

pub triangles_below : (n i : ℕ) (ts : List Triangle) → all (corners_ok n) ts ≡ true → all (λ x. ltb x n) (all_corners (triangles_from i ts)) ≡ true
unfolding triangles_from all corners_ok each
triangles_below n i [] e = refl
triangles_below n i (t ∷ ts) e =
    let a = and_true (corners_ok n t) (all (corners_ok n) ts) e in
    all_append (λ x. ltb x n) (corners_of t) (all_corners (triangles_from (suc i) ts)) ∙ true_and (named_below n (corners_of t) (and_true (eqb (length t.corners) 3) (named n t.corners) a.0).1) (triangles_below n (suc i) ts a.1)

straps_by : (n i : ℕ) (a : Edge) (es : List Element) (t : Bool) → all (λ x. ltb x n) (ends_of a) ≡ true → all (λ x. ltb x n) (all_corners es) ≡ true
    → all (λ x. ltb x n) (all_corners (pick t (strap_element i a ∷ es) es)) ≡ true
unfolding each
straps_by n i a es true d f = all_append (λ x. ltb x n) (ends_of a) (all_corners es) ∙ true_and d f
straps_by n i a es false d f = f

pub straps_below : (n i : ℕ) (es : List Edge) → all (ends_ok n) es ≡ true → all (λ x. ltb x n) (all_corners (straps_from i es)) ≡ true
unfolding straps_from all ends_ok each
straps_below n i [] e = refl
straps_below n i (a ∷ es) e =
    let b = and_true (ends_ok n a) (all (ends_ok n) es) e in
    straps_by n i a (straps_from (suc i) es) (structural? a) (named_below n (ends_of a) b.0) (straps_below n (suc i) es b.1)

-- the corners of the elements of an accepted mesh
elements_below : (K : Kind) (M : Mesh) → indices_fit_of M ≡ true → all (λ x. ltb x (length M.particles)) (all_corners (elements_of K M)) ≡ true
unfolding elements_of indices_fit_of all each
elements_below K M e =
    let n = length M.particles in
    let a = and_true (all (root_ok n) M.particles && all (corners_ok n) M.triangles && all (ends_ok n) M.edges) (all (side_ok n) M.boundary) e in
    let b = and_true (all (root_ok n) M.particles && all (corners_ok n) M.triangles) (all (ends_ok n) M.edges) a.0 in
    let d = and_true (all (root_ok n) M.particles) (all (corners_ok n) M.triangles) b.0 in
    by K n d.1 b.1
  where
    by : (K : Kind) (n : ℕ) → all (corners_ok n) M.triangles ≡ true → all (ends_ok n) M.edges ≡ true → all (λ x. ltb x n) (all_corners (elements_of K M)) ≡ true
    by Triangles n p q = triangles_below n 0 M.triangles p
    by Straps n p q = straps_below n 0 M.edges q
    by Nothing n p q = refl

-- a table in which they stand has room for them
corners_long : (k : ℕ) (es : List Element) → Whole k es → length (all_corners es) ≡ length es * k
unfolding each
corners_long k [] w = sym (zero-mul k)
corners_long k (x ∷ es) w =
    let a = corners_long k es (λ i h. w (suc i) (suc-le-suc h)) in
    let b : length x.corners ≡ k = w 0 (suc-le-suc zero-le) in
    omega (arith, a, b, length-append x.corners (all_corners es), suc-mul (length es) k)

corners_room : (k : ℕ) (es : List Element) (n : ℕ) (verts : List ℕ) → Cornered k es n verts → n * k ≤ length verts
corners_room k es n verts C =
    let a : n * k ≡ length (all_corners es) = ap (λ (m : ℕ). m * k) C.count ∙ sym (corners_long k es C.whole) in
    let b = ap length C.corners_are in
    omega (arith, a, b, length-take (n * k) verts)

-- the first places of a table of such elements
pub verts_below : (p n k : ℕ) (es : List Element) (verts : List ℕ) → all (λ x. ltb x p) (all_corners es) ≡ true → Cornered k es n verts → n * k ≤ length verts
    → (t : ℕ) → t < n * k → get_or verts t 0 < p
verts_below p n k es verts a C room t h =
    let e : get_or verts t 0 ≡ get_or (all_corners es) t 0 = sym (get_or-take (n * k) verts t 0 h) ∙ ap (λ (l : List ℕ). get_or l t 0) C.corners_are in
    let l : t < length (all_corners es) = omega (arith, ap length C.corners_are, length-take (n * k) verts) in
    subst (λ (x : ℕ). x < p) (sym e) (ltb-true _ _ (all_get (λ x. ltb x p) (all_corners es) t 0 a l))

-- ---- the table

-- elements are few, and so are their corners
pub record Few (n k : ℕ) : Type 0 where
  pub width : (1 ≤ k) × (k ≤ 3)
  pub few : n ≤ 2048
  pub narrow : n * k ≤ 4096

few_of : (K : Kind) (M : Mesh) (n : ℕ) → length M.triangles ≤ 1024 → length M.edges ≤ 2048 → n ≡ length (elements_of K M) → Few n (corners_per_of K)
unfolding elements_of
few_of Triangles M n t e c = let h = triangles_length 0 M.triangles in record { width = (omega arith, omega arith); few = omega arith; narrow = omega arith }
few_of Straps M n t e c = let h = straps_length 0 M.edges in record { width = (omega arith, omega arith); few = omega arith; narrow = omega arith }
few_of Nothing M n t e c = record { width = (omega arith, omega arith); few = omega arith; narrow = omega arith }

module _ (G : Given) (A : Accepted G) where
  -- the kind that was found is the mesh's
  pub kind_is_lem : (kind : KindCase) → KindFound (length G.corners / 3) (length G.ends / 4) G.ends kind → kind_is kind ≡ kind_of (mesh_of G)
  unfolding kind_of mesh_of mesh_at
  kind_is_lem kind F = F.is G.corners G.volumes G.lengths

  -- and so are the elements of that kind
  pub same_elements : (K : Kind) → elements_of K (mesh_of G) ≡ elements_in K (triangles_at (length G.corners / 3) G.corners G.volumes) (edges_at (length G.ends / 4) G.ends G.lengths)
  unfolding mesh_of mesh_at
  same_elements K = elements_in_lem K (mesh_of G)

  -- a table of all of them
  pub table_told : (n k others : ℕ) (N Y : List ℕ) (L : List Float) → k ≡ corners_per_of (kind_of (mesh_of G)) → others ≡ facet_others_of (kind_of (mesh_of G))
      → Tabled k (elements_of (kind_of (mesh_of G)) (mesh_of G)) n N Y L → MeshTabled G n k others N Y L
  table_told n k others N Y L ek eo T =
      let M = mesh_of G in
      let s = sizes_of A in
      let W : Few n k = subst (Few n) (sym ek) (few_of (kind_of M) M n (omega (arith, triangles_count G, s.few_triangles)) (omega (arith, edges_count G, s.few_edges)) T.cornered.count) in
      let room : n * k ≤ length Y = corners_room k (elements_of (kind_of M) M) n Y T.cornered in
      record {
        per = ek;
        others_are = eo;
        tabled = T;
        corners = record {
          width = W.width;
          few = W.few;
          room = room;
          below = λ t h.
              let b = verts_below _ n k _ Y (elements_below (kind_of M) M A.indices) T.cornered room t h in
              omega (arith, b, particles_count G, s.few_particles);
        };
        narrow = W.narrow;
      }

  -- the table of the kind's elements is the mesh's
  pub mesh_tabled :
      (kind : KindCase) (n k others : ℕ) (N Y : List ℕ) (L : List Float) → KindFound (length G.corners / 3) (length G.ends / 4) G.ends kind
      → Tabled (corners_per_of (kind_is kind)) (elements_in (kind_is kind) (triangles_at (length G.corners / 3) G.corners G.volumes) (edges_at (length G.ends / 4) G.ends G.lengths)) n N Y L
      → k ≡ corners_per_of (kind_is kind) → others ≡ facet_others_of (kind_is kind) → MeshTabled G n k others N Y L
  mesh_tabled kind n k others N Y L F T ek eo =
      let M = mesh_of G in
      let q = kind_is_lem kind F in
      let per : k ≡ corners_per_of (kind_of M) = ek ∙ ap corners_per_of q in
      let in_all : Tabled k (elements_in (kind_of M) (triangles_at (length G.corners / 3) G.corners G.volumes) (edges_at (length G.ends / 4) G.ends G.lengths)) n N Y L
      = subst (λ (x : ℕ). Tabled x (elements_in (kind_of M) (triangles_at (length G.corners / 3) G.corners G.volumes) (edges_at (length G.ends / 4) G.ends G.lengths)) n N Y L) (sym per)
      (subst (λ (K : Kind). Tabled (corners_per_of K) (elements_in K (triangles_at (length G.corners / 3) G.corners G.volumes) (edges_at (length G.ends / 4) G.ends G.lengths)) n N Y L) q T) in
      let T' : Tabled k (elements_of (kind_of M) M) n N Y L = subst (λ (es : List Element). Tabled k es n N Y L) (sym (same_elements (kind_of M))) in_all in
      table_told n k others N Y L per (eo ∙ ap facet_others_of q) T'

-- ---- the fan

-- the rows that hold v are v's fan
pub fan_found :
    (G : Given) (v n k others count : ℕ) (N Y N' Y' : List ℕ) (L L' : List Float) → MeshTabled G n k others N Y L → FanTabled v k n N Y L count N' Y' L' → count ≤ n → 4096 ≤ length Y'
    → FanFound G v n k others count Y Y'
fan_found G v n k others count N Y N' Y' L L' T F few long =
    record {
      per = T.per;
      others_are = T.others_are;
      corners = T.corners;
      cornered = T.tabled.cornered;
      fan_cornered = subst (λ (es : List Element). Cornered k es count Y') (sym (fan_of_lem (kind_of (mesh_of G)) (mesh_of G) v)) (F.tabled _ T.tabled).cornered;
      fan_few = omega (arith, T.corners.few);
      fan_room = omega (arith, mul-le-mul_right k few, T.narrow);
    }

-- ---- what is measured

-- what a listed particle may be
listed_below : (M : Mesh) (l : List ℕ) → particles_ok M l ≡ true → (j : ℕ) → j < length l → get_or l j 0 < length M.particles
unfolding particles_ok
listed_below M l e j h = ltb-true (get_or l j 0) (length M.particles) (all_get (λ x. ltb x (length M.particles)) l j 0 (and_true (strictly l) (all (λ x. ltb x (length M.particles)) l) e).1 h)

-- the table and a list of particles have room for marks, one for each particle or more
pub mark_room : {G : Given} {n k others : ℕ} {N Y : List ℕ} {L : List Float} (l : List ℕ) (lm marks : ℕ) → Accepted G → particles_ok (mesh_of G) l ≡ true → MeshTabled G n k others N Y L
    → n ≤ lm → length (mesh_of G).particles ≤ marks → MarkRoom k n Y lm l marks
mark_room {G} {n} {k} {Y = Y} l lm marks A e T long wide =
    record {
      verts_long = T.corners.room;
      measures_long = long;
      verts_below = λ j h.
          let b = verts_below _ n k _ Y (elements_below (kind_of (mesh_of G)) (mesh_of G) A.indices) T.tabled.cornered T.corners.room j h in
          omega (arith, b);
      listed_below = λ j h. let b = listed_below (mesh_of G) l e j h in omega (arith, b);
    }

-- the sum over the elements within a list is the mesh's
pub listed_found : {G : Given} {n k others : ℕ} {N Y : List ℕ} {L : List Float} {l : List ℕ} {r : Float} → MeshTabled G n k others N Y L → MeasuredWithin k n Y L l r → r ≡ the_rest_measure_of (mesh_of G) l
listed_found {G} {n} {k} {N = N} {Y = Y} {L = L} {l} {r} T W = rest_measure_of_lem (mesh_of G) k n N Y L l r T.tabled W
