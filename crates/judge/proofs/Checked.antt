-- The test of a row, by the places that the program reads, is the definition's test of that row; and the tests of the lists make up those of the mesh.
use Rattle.std.proofs.Common.{◌≡◌, ℕ, ◌+◌, ◌*◌, ◌/◌, Bool, true, false, ◌&&◌, ltb, List, [], ◌∷◌, length, get_or, sym, refl, ◌∙◌, ap₂, zero-add}
use lib.Ieee.{Float, nan}
use Rattle.lists.specs.Lists.{all, up_to}
use Rattle.columns.specs.Block.{cell}
use Rattle.columns.proofs.Rows.{all_tab}
use Rattle.columns.proofs.Cells.{col_0, col_1}
use Rattle.float.specs.Ranges.{number?, finite?, volume?, not_below0?}
use Rattle.model.specs.Mesh.{Mesh}
use Rattle.model.specs.Valid.{flag?, particle_ok, triangle_ok, edge_ok, corners_ok, root_ok, ends_ok, side_ok, named, numbers_fit_of, indices_fit_of}
use Rattle.mesh.specs.At.{particle_row, triangle_row, edge_row, side_row, particles_at, triangles_at, edges_at, boundary_at, mesh_at}
use Rattle.mesh.specs.Given.{Given}
use Rattle.mesh.specs.declared.Counts.{Counts}
use Rattle.judge.specs.Told.{length?, pair_ok, RootsTold, CornersTold, VolumesTold}
use Rattle.mesh.proofs.Lists.{particles_length}

-- a particle's numbers, column by column
pub particle_tested :
    (P R : ℕ) (points : List Float) (roots : List ℕ) (k : ℕ)
    → (number? (get_or points (0 + k) nan) && number? (get_or points (P + k) nan) && number? (get_or points (2 * P + k) nan) && number? (get_or points (3 * P + k) nan) && number? (get_or points (4 * P + k) nan)
    && finite? (get_or points (5 * P + k) nan) && number? (get_or points (6 * P + k) nan) && number? (get_or points (7 * P + k) nan) && flag? (get_or roots (R + k) 0))
    ≡ particle_ok (particle_row P R points roots k)
unfolding particle_ok cell
particle_tested P R points roots k = rw (zero-add k, sym (col_0 nan P points k), sym (col_1 nan P points k), sym (col_1 0 R roots k)) refl

-- a triangle's
pub triangle_tested :
    (C W : ℕ) (corners : List ℕ) (volumes : List Float) (k : ℕ)
    → (volume? (get_or volumes (0 + k) nan) && number? (get_or volumes (W + k) nan)) ≡ triangle_ok (triangle_row C W corners volumes k)
unfolding triangle_ok
triangle_tested C W corners volumes k = rw (zero-add k, col_0 nan W volumes k, col_1 nan W volumes k) refl

-- the tests of an edge, each length asked at once, are those of the definition
lengths_first : (s t a b c d e f : Bool) → ((s && t && (a && c) && (b && d)) && e && f) ≡ (s && t && a && b && c && d && e && f)
lengths_first false t a b c d e f = refl
lengths_first true false a b c d e f = refl
lengths_first true true false b c d e f = refl
lengths_first true true true true true d e f = refl
lengths_first true true true true false d e f = refl
lengths_first true true true false true d e f = refl
lengths_first true true true false false d e f = refl

-- an edge's
pub edge_tested :
    (E L : ℕ) (ends : List ℕ) (lengths : List Float) (k : ℕ)
    → (flag? (get_or ends (2 * E + k) 0) && flag? (get_or ends (3 * E + k) 0) && length? (get_or lengths (0 + k) nan) && length? (get_or lengths (L + k) nan) && number? (get_or lengths (2 * L + k) nan)
    && number? (get_or lengths (3 * L + k) nan))
    ≡ edge_ok (edge_row E L ends lengths k)
unfolding edge_ok cell
edge_tested E L ends lengths k =
    rw (zero-add k, sym (col_0 nan L lengths k), sym (col_1 nan L lengths k))
    (lengths_first (flag? (cell 0 E ends 2 k)) (flag? (cell 0 E ends 3 k)) (number? (cell nan L lengths 0 k)) (number? (cell nan L lengths 1 k)) (not_below0? (cell nan L lengths 0 k))
    (not_below0? (cell nan L lengths 1 k)) (number? (cell nan L lengths 2 k)) (number? (cell nan L lengths 3 k)))

-- a triangle's corners
pub corners_tested :
    (n C W : ℕ) (corners : List ℕ) (volumes : List Float) (k : ℕ)
    → named n (get_or corners k 0 ∷ get_or corners (C + k) 0 ∷ get_or corners (2 * C + k) 0 ∷ []) ≡ corners_ok n (triangle_row C W corners volumes k)
unfolding corners_ok cell
corners_tested n C W corners volumes k = rw (col_0 0 C corners k, col_1 0 C corners k) refl

-- two ends
pub pair_tested : (n R : ℕ) (s : List ℕ) (k : ℕ) → named n (get_or s k 0 ∷ get_or s (R + k) 0 ∷ []) ≡ pair_ok n R s k
unfolding pair_ok
pair_tested n R s k = rw (col_0 0 R s k, col_1 0 R s k) refl

-- a particle's root
pub root_tested : (n P R : ℕ) (points : List Float) (roots : List ℕ) (k : ℕ) → ltb (get_or roots k 0) n ≡ root_ok n (particle_row P R points roots k)
unfolding root_ok
root_tested n P R points roots k = rw (col_0 0 R roots k) refl

-- ---- the whole mesh

-- the mesh of the first k rows of seven blocks
abbrev mesh_in : Counts → Given → Mesh
mesh_in k G = mesh_at k G.points G.roots G.corners G.volumes G.ends G.lengths G.outline

module _ (k : Counts) (G : Given) where
  -- its numbers, list by list
  pub numbers_told :
      (x y z : Bool) → x ≡ all particle_ok (particles_at k.particles G.points G.roots) → VolumesTold k.triangles G.volumes y → z ≡ all edge_ok (edges_at k.edges G.ends G.lengths)
      → ((x && y) && z) ≡ numbers_fit_of (mesh_in k G)
  unfolding numbers_fit_of mesh_at
  numbers_told x y z p q r = ap₂ (λ (s t : Bool). s && t) (ap₂ (λ (s t : Bool). s && t) p (q G.corners)) r

  -- the ends of its edges
  ends_told : (n : ℕ) → all (pair_ok n (length G.ends / 4) G.ends) (up_to k.edges) ≡ all (ends_ok n) (edges_at k.edges G.ends G.lengths)
  unfolding edges_at ends_ok pair_ok
  ends_told n = sym (all_tab (ends_ok n) k.edges (edge_row (length G.ends / 4) (length G.lengths / 4) G.ends G.lengths))

  -- the ends of its boundary entries
  sides_told : (n : ℕ) → all (pair_ok n (length G.outline / 2) G.outline) (up_to k.boundary) ≡ all (side_ok n) (boundary_at k.boundary G.outline)
  unfolding boundary_at side_ok pair_ok
  sides_told n = sym (all_tab (side_ok n) k.boundary (side_row (length G.outline / 2) G.outline))

  -- its indices, list by list, once the number of its particles is known
  four : (n m : ℕ) → m ≡ n
      → (x y z w : Bool) → RootsTold n G.roots x → CornersTold n k.triangles G.corners y → z ≡ all (pair_ok n (length G.ends / 4) G.ends) (up_to k.edges)
      → w ≡ all (pair_ok n (length G.outline / 2) G.outline) (up_to k.boundary)
      → (((x && y) && z) && w)
      ≡ (all (root_ok m) (particles_at n G.points G.roots) && all (corners_ok m) (triangles_at k.triangles G.corners G.volumes) && all (ends_ok m) (edges_at k.edges G.ends G.lengths) && all (side_ok m) (boundary_at k.boundary G.outline))
  four n m e x y z w p q r s =
      rw e (ap₂ (λ (s t : Bool). s && t) (ap₂ (λ (s t : Bool). s && t) (ap₂ (λ (s t : Bool). s && t) (p G.points) (q G.volumes)) (r ∙ ends_told n)) (s ∙ sides_told n))

  -- its indices, list by list
  pub indices_told :
      (x y z w : Bool) → RootsTold k.particles G.roots x → CornersTold k.particles k.triangles G.corners y
      → z ≡ all (pair_ok k.particles (length G.ends / 4) G.ends) (up_to k.edges) → w ≡ all (pair_ok k.particles (length G.outline / 2) G.outline) (up_to k.boundary)
      → (((x && y) && z) && w) ≡ indices_fit_of (mesh_in k G)
  unfolding indices_fit_of mesh_at
  indices_told x y z w p q r s = four k.particles _ (particles_length k.particles G.points G.roots) x y z w p q r s
