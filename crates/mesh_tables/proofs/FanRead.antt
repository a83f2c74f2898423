-- What was read of a fan: it is small, and that of an accepted mesh. Assumes nothing.
use Prim.Native.Nat.{ℕ, ◌*◌, ◌/◌, ◌≤◌}
use native.Mathlib.Omega.{arith}
use native.Mathlib.Nat.{mul-le-mul_right}
use mathlib.Core.Path.{◌≡◌, refl, sym, ap, subst, ◌∙◌}
use mathlib.Core.List.{List, []}
use lib.ListN.{length}
use lib.Ieee.{Float}
use Rattle.lists.specs.Lists.{stands, sift}
use Rattle.lists.proofs.Sifts.{sift_length}
use Rattle.lists.proofs.Stores.{tab_length}
use Rattle.model.specs.Elements.{Kind, Triangles, Straps, Nothing, Element, kind_of, fan_of, triangles_from, straps_from, corners_per_of, facet_others_of}
use Rattle.mesh.specs.At.{triangle_row, triangles_at, edges_at}
use Rattle.mesh.specs.Given.{Given, mesh_of}
use Rattle.mesh.proofs.Lists.{edges_length}
use Rattle.elements.specs.declared.Kind.{Kind as KindCase}
use Rattle.elements.specs.Table.{KindFound, kind_is, elements_in, holding}
use Rattle.elements.proofs.Found.{fan_of_lem}
use Rattle.elements.proofs.Filling.{triangles_length, straps_length}
use Rattle.mesh_tables.specs.Accepted.{Accepted, FanFound}
use Rattle.mesh_tables.specs.Fans.{CornersRead, held_in, FanCorners, FanOf}
use Rattle.mesh_tables.proofs.Accepted.{Few, kind_is_lem, same_elements}

-- ---- how many they are

-- those of so few triangles and edges that hold v
pub held_few : (K : Kind) (v t e : ℕ) (C : List ℕ) (W : List Float) (E : List ℕ) (L : List Float) (n : ℕ) → t ≤ 1024 → e ≤ 2048 → n ≡ length (held_in K v t e C W E L) → Few n (corners_per_of K)
unfolding elements_in triangles_at sift
held_few Triangles v t e C W E L n ht he q =
    let a = sift_length (λ (x : Element). stands v x.corners) (triangles_from 0 (triangles_at t C W)) in
    let b = triangles_length 0 (triangles_at t C W) in
    let d = tab_length t (triangle_row (length C / 3) (length W / 2) C W) in
    record { width = (omega arith, omega arith); few = omega arith; narrow = omega arith }
held_few Straps v t e C W E L n ht he q =
    let a = sift_length (λ (x : Element). stands v x.corners) (straps_from 0 (edges_at e E L)) in
    let b = straps_length 0 (edges_at e E L) in
    let d = edges_length e E L in
    record { width = (omega arith, omega arith); few = omega arith; narrow = omega arith }
held_few Nothing v t e C W E L n ht he q = record { width = (omega arith, omega arith); few = omega arith; narrow = omega arith }

-- so what was counted is few
pub corners_few : (K : Kind) (v t e : ℕ) (C E : List ℕ) (r : ℕ) (verts : List ℕ) → t ≤ 1024 → e ≤ 2048 → FanCorners K v t e C E r verts → Few r (corners_per_of K)
corners_few K v t e C E r verts ht he F = held_few K v t e C [] E [] r ht he (F [] []).count

-- ---- of an accepted mesh

module _ (G : Given) (A : Accepted G) (v : ℕ) (kind : KindCase) (found : KindFound (length G.corners / 3) (length G.ends / 4) G.ends kind) where
  -- the elements that were read are the fan
  held_is : held_in (kind_is kind) v (length G.corners / 3) (length G.ends / 4) G.corners G.volumes G.ends G.lengths ≡ fan_of (kind_of (mesh_of G)) (mesh_of G) v
  held_is =
      ap (λ (K : Kind). held_in K v (length G.corners / 3) (length G.ends / 4) G.corners G.volumes G.ends G.lengths) (kind_is_lem G A kind found)
      ∙ ap (holding v) (sym (same_elements G A (kind_of (mesh_of G)))) ∙ sym (fan_of_lem (kind_of (mesh_of G)) (mesh_of G) v)

  -- by its corners
  pub fan_read : (k others count : ℕ) (verts : List ℕ) → FanCorners (kind_is kind) v (length G.corners / 3) (length G.ends / 4) G.corners G.ends count verts
      → k ≡ corners_per_of (kind_is kind) → others ≡ facet_others_of (kind_is kind) → FanOf G v k others count verts
  fan_read k others count verts F ek eo =
      let fan : List Element = fan_of (kind_of (mesh_of G)) (mesh_of G) v in
      let here : CornersRead (corners_per_of (kind_is kind)) fan count verts = subst (λ (es : List Element). CornersRead (corners_per_of (kind_is kind)) es count verts) held_is (F G.volumes G.lengths) in
      let R : CornersRead k fan count verts = subst (λ (m : ℕ). CornersRead m fan count verts) (sym ek) here in
      record { per = ek ∙ ap corners_per_of (kind_is_lem G A kind found); others_are = eo ∙ ap facet_others_of (kind_is_lem G A kind found); count_is = R.count; cornered = R.cornered }

-- a fan that was found in the table of all elements
pub found_fan : {G : Given} {v n k others count : ℕ} {verts fan_verts : List ℕ} → FanFound G v n k others count verts fan_verts → FanOf G v k others count fan_verts
found_fan F = record { per = F.per; others_are = F.others_are; count_is = F.fan_cornered.count; cornered = λ h. F.fan_cornered }
