-- The kind of a mesh, as a loop over the structural column finds it. Assumes nothing.
use mathlib.Core.Path.{◌≡◌, refl, sym, ◌∙◌, ap}
use mathlib.Core.List.{List, []}
use Prim.Native.Nat.{ℕ, zero, suc, ◌+◌, ◌*◌, ◌/◌, ◌<◌}
use native.Mathlib.Omega.{arith}
use borrow.Author.Tests.{eq-eqb, ne_eqb}
use lib.ListN.{length, get_or}
use lib.Ieee.{Float}
use Rattle.lists.specs.Lists.{tab}
use Rattle.lists.proofs.Stores.{tab_at}
use Rattle.lists.proofs.Sifts.{any_made, none_any}
use Rattle.columns.specs.Block.{cell}
use Rattle.model.specs.Mesh.{Edge, Mesh, blank_edge}
use Rattle.model.specs.Elements.{Kind, Triangles, Straps, Nothing, structural?, kind_by, elements_of, fan_of}
use Rattle.mesh.specs.At.{triangles_at, edges_at}
use Rattle.mesh.proofs.Lists.{edges_length}
use Rattle.elements.specs.Table.{KindFound, elements_in, holding}
use Rattle.elements.specs.declared.Kind.TheVariants.{Triangles as TrianglesCase, Straps as StrapsCase, Nothing as NothingCase}

-- the elements of a mesh are those among its triangles and edges
pub elements_in_lem : (k : Kind) (M : Mesh) → elements_of k M ≡ elements_in k M.triangles M.edges
unfolding elements_of elements_in
elements_in_lem Triangles M = refl
elements_in_lem Straps M = refl
elements_in_lem Nothing M = refl

-- the fan of v are the elements that hold it
pub fan_of_lem : (k : Kind) (M : Mesh) (v : ℕ) → fan_of k M v ≡ holding v (elements_of k M)
unfolding fan_of
fan_of_lem k M v = refl

-- where there is a triangle, a mesh is triangles
pub kind_triangles : (t e : ℕ) (ends : List ℕ) → (t ≡ 0 → ⊥) → KindFound t e ends TrianglesCase
unfolding kind_by triangles_at tab
kind_triangles zero e ends h = absurd (h refl)
kind_triangles (suc t) e ends h = record { is = λ corners volumes lengths. refl }

-- what the structural column has at an edge
column_is : (e : ℕ) (ends : List ℕ) (lengths : List Float) (k : ℕ) → k < e
    → (get_or (edges_at e ends lengths) k blank_edge).structural ≡ get_or ends (2 * (length ends / 4) + k) 0
unfolding edges_at cell
column_is e ends lengths k h = ap (λ (x : Edge). x.structural) (tab_at e _ k blank_edge h)

-- where there is none, and a structural edge, it is straps
pub kind_straps : (t e : ℕ) (ends : List ℕ) (k : ℕ) → t ≡ 0 → k < e → get_or ends (2 * (length ends / 4) + k) 0 ≡ 1 → KindFound t e ends StrapsCase
unfolding kind_by triangles_at tab
kind_straps t e ends k z h g =
    rw z
    (record {
      is = λ corners volumes lengths.
          ap (kind_by [])
          (sym (any_made structural? (edges_at e ends lengths) k blank_edge (omega (arith, edges_length e ends lengths)) (eq-eqb _ _ (column_is e ends lengths k h ∙ g))));
    })

-- and where no edge is structural, it is nothing
pub kind_nothing : (t e : ℕ) (ends : List ℕ) → t ≡ 0 → ((k : ℕ) → k < e → get_or ends (2 * (length ends / 4) + k) 0 ≡ 1 → ⊥) → KindFound t e ends NothingCase
unfolding kind_by triangles_at tab
kind_nothing t e ends z f =
    rw z
    (record {
      is = λ corners volumes lengths.
          ap (kind_by [])
          (sym (none_any structural? (edges_at e ends lengths) blank_edge
          (λ k h.
          let l : k < e = omega (arith, edges_length e ends lengths) in
          ne_eqb _ _ (λ q. f k l (sym (column_is e ends lengths k l) ∙ q)))));
    })
