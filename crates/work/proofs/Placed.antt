-- From a mesh in blocks whose indices fit to what the places of the blocks hold. Assumes nothing.
use Prim.Native.Nat.{ℕ, ◌/◌, ◌<◌}
use native.Mathlib.Omega.{arith}
use mathlib.Core.Path.{◌≡◌, subst}
use mathlib.Core.Bool.{true}
use mathlib.Core.List.{List, [], ◌∷◌}
use lib.ListN.{length}
use lib.Ieee.{Float}
use Rattle.lists.specs.Lists.{tab}
use Rattle.lists.proofs.Stores.{tab_at, tab_length}
use Rattle.columns.specs.Block.{cell}
use Rattle.model.specs.Mesh.{Edge, Side, blank_triangle, blank_edge}
use Rattle.model.specs.Valid.{indices_fit_of}
use Rattle.model.specs.Trace.{All, Different, Sound}
use Rattle.model_laws.proofs.Laws.{all_in}
use Rattle.model_laws.proofs.Indexed.{Indexed}
use Rattle.model_laws.proofs.Rows.{Pair, Three, pair_from, three_from}
use Rattle.model_laws.proofs.Accepted.{accepted_indexed}
use Rattle.mesh.specs.At.{triangle_row, edge_row, side_row, triangles_at, edges_at, boundary_at, mesh_at}
use Rattle.mesh.specs.declared.Counts.{Counts}
use Rattle.mesh.proofs.Lists.{particles_length, edges_length}
use Rattle.work.specs.Places.{EndsIn, SidesIn, CornersIn}

-- what holds of all rows holds of each
row_all : {A : Type 0} (P : A → Type 0) (n : ℕ) (f : ℕ → A) (d : A) → All P (tab n f) → (j : ℕ) → j < n → P (f j)
row_all P n f d h j l = subst P (tab_at n f j d l) (all_in P (tab n f) j d (omega (arith, tab_length n f)) h)

-- the counts of a mesh in blocks
pub particles_count : (k : Counts) (points : List Float) (roots corners : List ℕ) (volumes : List Float) (ends : List ℕ) (lengths : List Float) (outline : List ℕ)
    → length (mesh_at k points roots corners volumes ends lengths outline).particles ≡ k.particles
unfolding mesh_at
particles_count k points roots corners volumes ends lengths outline = particles_length k.particles points roots

pub triangles_count : (k : Counts) (points : List Float) (roots corners : List ℕ) (volumes : List Float) (ends : List ℕ) (lengths : List Float) (outline : List ℕ)
    → length (mesh_at k points roots corners volumes ends lengths outline).triangles ≡ k.triangles
unfolding mesh_at triangles_at
triangles_count k points roots corners volumes ends lengths outline = tab_length k.triangles _

pub edges_count : (k : Counts) (points : List Float) (roots corners : List ℕ) (volumes : List Float) (ends : List ℕ) (lengths : List Float) (outline : List ℕ)
    → length (mesh_at k points roots corners volumes ends lengths outline).edges ≡ k.edges
unfolding mesh_at
edges_count k points roots corners volumes ends lengths outline = edges_length k.edges ends lengths

pub boundary_count : (k : Counts) (points : List Float) (roots corners : List ℕ) (volumes : List Float) (ends : List ℕ) (lengths : List Float) (outline : List ℕ)
    → length (mesh_at k points roots corners volumes ends lengths outline).boundary ≡ k.boundary
unfolding mesh_at boundary_at
boundary_count k points roots corners volumes ends lengths outline = tab_length k.boundary _

module _ (k : Counts) (points : List Float) (roots corners : List ℕ) (volumes : List Float) (ends : List ℕ) (lengths : List Float) (outline : List ℕ)
    (fit : indices_fit_of (mesh_at k points roots corners volumes ends lengths outline) ≡ true) where
  indexed : Indexed (mesh_at k points roots corners volumes ends lengths outline)
  indexed = accepted_indexed _ fit

  count : length (mesh_at k points roots corners volumes ends lengths outline).particles ≡ k.particles
  count = particles_count k points roots corners volumes ends lengths outline

  -- the corners of a triangle, the ends of an edge and of a boundary entry
  corner_at : (j : ℕ) → j < k.triangles → Three k.particles (cell 0 (length corners / 3) corners 0 j) (cell 0 (length corners / 3) corners 1 j) (cell 0 (length corners / 3) corners 2 j)
  unfolding mesh_at triangles_at
  corner_at j l = three_from k.particles _ _ _ (subst (λ (p : ℕ). Sound p (triangle_row (length corners / 3) (length volumes / 2) corners volumes j)) count (row_all (Sound (length (mesh_at k points roots corners volumes ends lengths outline).particles)) k.triangles (triangle_row (length corners / 3) (length volumes / 2) corners volumes) blank_triangle indexed.triangles j l)).apart

  end_at : (j : ℕ) → j < k.edges → Pair k.particles (cell 0 (length ends / 4) ends 0 j) (cell 0 (length ends / 4) ends 1 j)
  unfolding mesh_at edges_at
  end_at j l = subst (λ (p : ℕ). Pair p (cell 0 (length ends / 4) ends 0 j) (cell 0 (length ends / 4) ends 1 j)) count (row_all (λ (e : Edge). Pair (length (mesh_at k points roots corners volumes ends lengths outline).particles) e.a e.b) k.edges (edge_row (length ends / 4) (length lengths / 4) ends lengths) blank_edge indexed.edges j l)

  side_at : (j : ℕ) → j < k.boundary → Pair k.particles (cell 0 (length outline / 2) outline 0 j) (cell 0 (length outline / 2) outline 1 j)
  unfolding mesh_at boundary_at
  side_at j l = pair_from k.particles _ _ (subst (λ (p : ℕ). Different 2 p (side_row (length outline / 2) outline j).corners) count (row_all (λ (s : Side). Different 2 (length (mesh_at k points roots corners volumes ends lengths outline).particles) s.corners) k.boundary (side_row (length outline / 2) outline) (record { corners = 0 ∷ 0 ∷ [] }) indexed.boundary j l)).apart

  pub corners_in : CornersIn k.particles k.triangles corners
  corners_in = record { first = λ j l. (corner_at j l).a; second = λ j l. (corner_at j l).b; third = λ j l. (corner_at j l).c }

  pub ends_in : EndsIn k.particles k.edges ends
  ends_in = record { first = λ j l. (end_at j l).first; second = λ j l. (end_at j l).second }

  pub sides_in : SidesIn k.particles k.boundary outline
  sides_in = record { first = λ j l. (side_at j l).first; second = λ j l. (side_at j l).second }
