-- The table of the triangles and edges at the fronts of blocks: its corners name particles, and its pieces are theirs.
use Prim.Native.Nat.{ℕ, ◌*◌, ◌/◌, ◌≤◌}
use native.Mathlib.Omega.{arith}
use mathlib.Core.Path.{◌≡◌, refl, sym, ◌∙◌, ap, subst}
use mathlib.Core.Bool.{true}
use mathlib.Core.List.{List}
use lib.Dec.{ltb}
use lib.Ieee.{Float}
use lib.ListN.{length, get_or}
use Rattle.lists.specs.Lists.{all, each}
use Rattle.columns.proofs.Rows.{tab_length}
use Rattle.model.specs.Mesh.{Triangle, Edge, Mesh}
use Rattle.model.specs.Valid.{corners_ok, ends_ok}
use Rattle.model.specs.Elements.{Kind, Triangles, Straps, Nothing, Element, kind_of, corners_per_of}
use Rattle.model.specs.Pieces.{piece_count, pieces}
use Rattle.mesh.specs.At.{triangle_row, triangles_at, edges_at}
use Rattle.mesh.specs.declared.Counts.{Counts}
use Rattle.mesh.proofs.Lists.{edges_length}
use Rattle.elements.specs.declared.Kind.{Kind as KindCase}
use Rattle.elements.specs.Table.{kind_is, elements_in, KindFound, Cornered, Tabled, TableRoom}
use Rattle.elements.proofs.Found.{elements_in_lem}
use Rattle.elements.proofs.Filling.{triangles_length, straps_length}
use Rattle.reach.proofs.Reached.{plain_in}
use Rattle.bodies.specs.Bodies.{Corners}
use Rattle.pieces.specs.Counted.{SidesLent, PieceNumber}
use Rattle.piece_classes.proofs.Pieces.{two_corners}
use Rattle.mesh_tables.proofs.Accepted.{all_corners, triangles_below, straps_below, verts_below}
use Rattle.answer_listing.specs.Listed.{pieces_in, Countable}

-- the pieces of a mesh are those of its triangles and edges
pub pieces_in_lem : (M : Mesh) → pieces_in M.triangles M.edges ≡ pieces M
unfolding pieces pieces_in kind_of
pieces_in_lem M = ap (λ (es : List Element). piece_count (corners_per_of (kind_of M)) es) (sym (elements_in_lem (kind_of M) M))

-- ---- corners name particles

elements_below : (K : Kind) (n : ℕ) (ts : List Triangle) (es : List Edge) → all (corners_ok n) ts ≡ true → all (ends_ok n) es ≡ true → all (λ x. ltb x n) (all_corners (elements_in K ts es)) ≡ true
unfolding elements_in all each
elements_below Triangles n ts es p q = triangles_below n 0 ts p
elements_below Straps n ts es p q = straps_below n 0 es q
elements_below Nothing n ts es p q = refl

-- ---- the table

-- elements are few, and so are their corners
record Few (n k : ℕ) : Type 0 where
  pub width : (1 ≤ k) × (k ≤ 3)
  pub few : n ≤ 2048
  pub short : n ≤ 512
  pub narrow : n * k ≤ 1024

few_of : (K : Kind) (ts : List Triangle) (es : List Edge) (n : ℕ) → length ts ≤ 128 → length es ≤ 512 → n ≡ length (elements_in K ts es) → Few n (corners_per_of K)
unfolding elements_in
few_of Triangles ts es n t e c = let h = triangles_length 0 ts in record { width = (omega arith, omega arith); few = omega arith; short = omega arith; narrow = omega arith }
few_of Straps ts es n t e c = let h = straps_length 0 es in record { width = (omega arith, omega arith); few = omega arith; short = omega arith; narrow = omega arith }
few_of Nothing ts es n t e c = record { width = (omega arith, omega arith); few = omega arith; short = omega arith; narrow = omega arith }

triangles_count : (n : ℕ) (C : List ℕ) (U : List Float) → length (triangles_at n C U) ≡ n
unfolding triangles_at
triangles_count n C U = tab_length n (triangle_row (length C / 3) (length U / 2) C U)

module _ (k : Counts) (C : List ℕ) (U : List Float) (E : List ℕ) (L : List Float) (A : Countable k C U E L) where
  -- tables of 512 elements have room
  pub table_room : TableRoom k.triangles k.edges (length C) (length U) (length E) (length L) 512 1024 512
  table_room =
      record {
        few = (omega (arith, A.few_triangles), omega (arith, A.few_edges));
        corners = A.corners;
        volumes = A.volumes;
        ends = A.ends;
        lengths = A.lengths;
        numbers = (omega (arith, A.few_triangles), omega (arith, A.few_edges));
        verts = (omega (arith, A.few_triangles), omega (arith, A.few_edges));
        measures = (omega (arith, A.few_triangles), omega (arith, A.few_edges));
      }

  module _ (kind : KindCase) (n per : ℕ) (N Y : List ℕ) (F : List Float)
      (T : Tabled (corners_per_of (kind_is kind)) (elements_in (kind_is kind) (triangles_at k.triangles C U) (edges_at k.edges E L)) n N Y F) (e : per ≡ corners_per_of (kind_is kind)) where
    few_told : Few n (corners_per_of (kind_is kind))
    few_told =
        few_of (kind_is kind) (triangles_at k.triangles C U) (edges_at k.edges E L) n (omega (arith, triangles_count k.triangles C U, A.few_triangles)) (omega (arith, edges_length k.edges E L, A.few_edges)) T.cornered.count

    -- 512 places are enough
    pub short_told : n ≤ 512
    short_told = few_told.short

    -- the corners of the table name particles
    corners_told : 1024 ≤ length Y → Corners n per Y 1024
    corners_told long =
        let ts = triangles_at k.triangles C U in
        let es = edges_at k.edges E L in
        let W : Few n (corners_per_of (kind_is kind)) = few_told in
        let w = corners_per_of (kind_is kind) in
        let room : n * w ≤ length Y = omega (arith, W.narrow) in
        subst (λ (x : ℕ). Corners n x Y 1024) (sym e)
        (record {
          width = W.width;
          few = W.few;
          room = room;
          below = λ t h.
              let b = verts_below k.particles n w (elements_in (kind_is kind) ts es) Y (elements_below (kind_is kind) k.particles ts es A.triangle_names A.edge_names) T.cornered room t h in
              omega (arith, b, A.few_particles);
        })

    -- the table meets what the count asks, with empty chains and room for each corner and each element
    pub lent_told : {heads : List ℕ} {links lows places : ℕ} → 1024 ≤ length Y → length heads ≡ 4096 → ((h : ℕ) → get_or heads h 0 ≡ 0) → 1024 ≤ links → 1024 ≤ lows → places ≡ n
        → SidesLent n per Y heads links lows places
    lent_told long chains empty a b d =
        let W : Few n per = subst (λ (x : ℕ). Few n x) (sym e) few_told in
        record {
          corners = corners_told long;
          two = (let h = two_corners (kind_is kind) in omega arith);
          few = omega (arith, W.narrow);
          heads_long = chains;
          empty = empty;
          links_long = omega (arith, W.narrow);
          lows_long = omega (arith, W.narrow);
          places_long = d;
        }

    -- the pieces of the table are those of the triangles and edges
    pub pieces_told : (r : ℕ) → KindFound k.triangles k.edges E kind → PieceNumber n per Y r → r ≡ pieces_in (triangles_at k.triangles C U) (edges_at k.edges E L)
    unfolding pieces_in
    pieces_told r K P =
        let ts = triangles_at k.triangles C U in
        let es = edges_at k.edges E L in
        let Z : Cornered per (elements_in (kind_is kind) ts es) n Y = subst (λ (x : ℕ). Cornered x (elements_in (kind_is kind) ts es) n Y) (sym e) T.cornered in
        P.counted _ Z (plain_in (kind_is kind) k.particles ts es A.triangle_names A.edge_names)
        ∙ ap (λ (x : ℕ). piece_count x (elements_in (kind_is kind) ts es)) e
        ∙ ap (λ (x : Kind). piece_count (corners_per_of x) (elements_in x ts es)) (K.is C U L)
