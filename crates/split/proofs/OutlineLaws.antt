-- Laws of the boundary of a split: its entries follow, and the crack facets stand behind them. Assumes nothing.
use mathlib.Core.Path.{◌≡◌, refl, sym, ◌∙◌, ap, subst}
use mathlib.Core.List.{List, [], ◌++◌, append-nil}
use Prim.Native.Nat.{ℕ, ◌/◌, ◌≤◌}
use native.Mathlib.Omega.{arith}
use borrow.Author.Tests.{le-leb}
use lib.ListN.{length}
use lib.Ieee.{Float}
use Rattle.lists.proofs.Stores.{tab_length}
use Rattle.model.specs.Mesh.{Side}
use Rattle.model.specs.Elements.{Kind, corners_per_of}
use Rattle.model.specs.Split.{followed, crack_facets}
use Rattle.mesh.specs.At.{side_row, boundary_at}
use Rattle.elements.specs.declared.Kind.{Kind as KindCase}
use Rattle.elements.specs.declared.Kind.TheVariants.{Triangles as TrianglesCase, Straps as StrapsCase, Nothing as NothingCase}
use Rattle.elements.specs.Table.{kind_is}
use Rattle.work.specs.Rows.{GrownTo, SideRoom}
use Rattle.boundary.specs.Following.{SidesFollowed, SidesRoom}
use Rattle.boundary.specs.Faces.{FaceRoom, FacetsGrown, all_facets}
use Rattle.std.specs.Prelude.{Option, Some}
use Rattle.split.specs.Settling.{FacetsAsked, FacetsTold, BoundaryAsked, BoundaryTold}

-- as many entries as rows
pub boundary_length : (n : ℕ) (outline : List ℕ) → length (boundary_at n outline) ≡ n
unfolding boundary_at
boundary_length n outline = tab_length n (side_row (length outline / 2) outline)

-- ---- crack facets

-- what the facets of triangles ask
pub facet_room : (kind : KindCase) (before n count b room : ℕ) (numbers : List ℕ) (lv lg lc lo : ℕ) → kind ≡ TrianglesCase → FacetsAsked (kind_is kind) before n count b room numbers lv lg lc lo
    → FaceRoom before n count numbers lv lg lc × SideRoom b room lo
facet_room kind before n count b room numbers lv lg lc lo q A =
    let B = subst (λ (z : KindCase). FacetsAsked (kind_is z) before n count b room numbers lv lg lc lo) q A in
    (record { ring = B.ring; small = omega (arith, B.small); numbers_long = B.numbers_long; numbers_in = B.in_corners refl }, record { rows = B.rows; columns = B.columns })

-- in an outline of as many places
pub facets_on : {K : Kind} {before n count b room : ℕ} {numbers : List ℕ} {lv lg lc lo lo' : ℕ} → lo' ≡ lo → FacetsAsked K before n count b room numbers lv lg lc lo → FacetsAsked K before n count b room numbers lv lg lc lo'
facets_on {K} {before} {n} {count} {b} {room} {numbers} {lv} {lg} {lc} q A = subst (λ (l : ℕ). FacetsAsked K before n count b room numbers lv lg lc l) (sym q) A

module _ (kind : KindCase) (v before n count b room : ℕ) (numbers verts groups corners : List ℕ) where
  -- those of triangles
  pub facets_triangles : (outline outline' : List ℕ) (r : Option ℕ) → kind ≡ TrianglesCase → FacetsGrown all_facets v before n count b room numbers verts groups corners outline outline' r
      → FacetsTold (kind_is kind) v before n count b room numbers verts groups corners outline outline' r
  facets_triangles outline outline' r q G =
      subst (λ (z : KindCase). FacetsTold (kind_is z) v before n count b room numbers verts groups corners outline outline' r) (sym q)
      (record {
        facets =
            λ O M t volumes points B.
            G.facets O M t volumes
            (record { at = B.at; before_is = B.before_is; count_is = B.count_is; ringed = B.ringed; numbered = B.numbered; triangles_are = B.triangles_are; numbers_in = B.numbers_in refl });
      })

  -- without facets the entries are as they were
  unchanged : (outline : List ℕ) → b ≤ room → GrownTo (Some b) room (boundary_at b outline ++ []) (λ q. boundary_at q outline)
  unchanged outline h =
      let e = append-nil (boundary_at b outline) in
      let l : length (boundary_at b outline ++ []) ≡ b = ap length e ∙ boundary_length b outline in
      (le-leb (length (boundary_at b outline ++ [])) room (omega arith), sym l, sym e)

  -- straps and nothing have none
  pub facets_straps : (outline : List ℕ) → kind ≡ StrapsCase → b ≤ room → FacetsTold (kind_is kind) v before n count b room numbers verts groups corners outline outline (Some b)
  unfolding crack_facets
  facets_straps outline q h =
      subst (λ (z : KindCase). FacetsTold (kind_is z) v before n count b room numbers verts groups corners outline outline (Some b)) (sym q)
      (record { facets = λ O M t volumes points B. unchanged outline h })

  pub facets_nothing : (outline : List ℕ) → kind ≡ NothingCase → b ≤ room → FacetsTold (kind_is kind) v before n count b room numbers verts groups corners outline outline (Some b)
  unfolding crack_facets
  facets_nothing outline q h =
      subst (λ (z : KindCase). FacetsTold (kind_is z) v before n count b room numbers verts groups corners outline outline (Some b)) (sym q)
      (record { facets = λ O M t volumes points B. unchanged outline h })

-- ---- the boundary

module _ (K : Kind) (v before n count b room : ℕ) (numbers verts groups : List ℕ) (points : List Float) (corners outline : List ℕ) (A : BoundaryAsked K v before n count b room numbers verts groups (length points) (length corners) outline) where
  -- the entries that follow have what they ask
  pub sides_room : (k : ℕ) → k ≡ corners_per_of K → SidesRoom v before k n count before b verts groups points outline
  sides_room k q =
      let h = A.here in
      let F = A.facets in
      subst (λ (z : ℕ). SidesRoom v before z n count before b verts groups points outline) (sym q)
      (record {
        room = F.ring;
        entries = omega (arith, F.rows, F.columns);
        rests_in = A.rests_in;
        v_in = h;
        corners_in = A.corners_in;
        a_in = A.sides.first;
        b_in = A.sides.second;
        some = omega arith;
        behind = omega arith;
        most = A.most;
        small = F.small;
        below = A.below;
      })

  -- the facets stand behind the entries that followed
  pub boundary_told : (k : ℕ) (outline₁ outline₂ : List ℕ) (r : Option ℕ) → k ≡ corners_per_of K → SidesFollowed v before k n count before b verts groups points outline outline₁
      → FacetsTold K v before n count b room numbers verts groups corners outline₁ outline₂ r → BoundaryTold K v before n count b room numbers verts groups points corners outline outline₂ r
  boundary_told k outline₁ outline₂ r q S F =
      let S' = subst (λ (z : ℕ). SidesFollowed v before z n count before b verts groups points outline outline₁) q S in
      record {
        sides =
            λ O M t volumes B.
            subst (λ (l : List Side). GrownTo r room (l ++ crack_facets K M O) (λ j. boundary_at j outline₂))
            (S'.sides O M (record { at = B.at; before_is = B.before_is; count_is = B.count_is; ringed = B.ringed; rests = B.rests }))
            (F.facets O M t volumes points B);
      }
