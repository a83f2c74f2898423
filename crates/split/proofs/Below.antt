-- The elements of a mesh whose indices fit: their numbers name rows, their corners name particles, and they are few. Assumes nothing.
use Prim.Native.Nat.{ℕ, suc, ◌+◌, ◌*◌, ◌<◌, ◌≤◌}
use native.Mathlib.Omega.{arith}
use mathlib.Core.Path.{◌≡◌, sym, ◌∙◌, ap, subst}
use mathlib.Core.Bool.{true}
use mathlib.Core.List.{List, [], ◌∷◌, map}
use lib.ListN.{length, get_or, length-take, length-map}
use lib.Seq.{get_or-take}
use lib.Ieee.{Float}
use Rattle.lists.specs.Lists.{stands, each}
use Rattle.model.specs.Mesh.{Triangle, Edge, Mesh}
use Rattle.model.specs.Valid.{indices_fit_of}
use Rattle.model.specs.Elements.{Kind, Triangles, Straps, Nothing, Element, structural?, strap_element, triangles_from, straps_from, elements_of, fan_of, corners_per_of}
use Rattle.model.specs.Trace.{All, Sound}
use Rattle.model_laws.proofs.Laws.{all_over, all_sift, all_each_of, all_in, all_map, pick_both}
use Rattle.model_laws.proofs.Indexed.{Indexed, numbers_from}
use Rattle.model_laws.proofs.Rows.{Pair, named_below}
use Rattle.model_laws.proofs.Accepted.{accepted_indexed}
use Rattle.elements.specs.Table.{elements_in, Cornered, Tabled}
use Rattle.elements.proofs.Filling.{triangles_length, straps_length}
use Rattle.model_laws.proofs.Inserted.{straps_inside}

-- ---- numbers

-- the number of rows that a kind's elements stand in
abbrev pub rows_of : Kind → Mesh → ℕ
rows_of Triangles M = length M.triangles
rows_of Straps M = length M.edges
rows_of Nothing M = 0

-- the elements' numbers name rows
pub element_numbers : (K : Kind) (M : Mesh) → All (λ (e : Element). e.number < rows_of K M) (elements_of K M)
unfolding elements_of
element_numbers Triangles M = all_over (λ (e : Element). e.number < 0 + length M.triangles) (λ (e : Element). e.number < length M.triangles) (λ e u. omega arith) (triangles_from 0 M.triangles) (numbers_from 0 M.triangles)
element_numbers Straps M = all_over (λ (e : Element). e.number < 0 + length M.edges) (λ (e : Element). e.number < length M.edges) (λ e u. omega arith) (straps_from 0 M.edges) (straps_inside 0 M.edges)
element_numbers Nothing M = tt

-- ---- corners

-- each is below p
abbrev pub Cornering : ℕ → Element → Type 0
Cornering p e = All (λ x. x < p) e.corners

triangle_corners : (p i : ℕ) (ts : List Triangle) → All (Sound p) ts → All (Cornering p) (triangles_from i ts)
unfolding triangles_from
triangle_corners p i [] h = tt
triangle_corners p i (t ∷ ts) h = (named_below p t.corners h.0.apart, triangle_corners p (suc i) ts h.1)

strap_corners : (p i : ℕ) (es : List Edge) → All (λ (e : Edge). Pair p e.a e.b) es → All (Cornering p) (straps_from i es)
unfolding straps_from
strap_corners p i [] h = tt
strap_corners p i (a ∷ es) h =
    let r = strap_corners p (suc i) es h.1 in
    pick_both (All (Cornering p)) (structural? a) (strap_element i a ∷ straps_from (suc i) es) (straps_from (suc i) es) ((h.0.first, (h.0.second, tt)), r) r

-- those of the elements of a mesh name its particles
pub element_corners : (K : Kind) (M : Mesh) → Indexed M → All (Cornering (length M.particles)) (elements_of K M)
unfolding elements_of
element_corners Triangles M X = triangle_corners (length M.particles) 0 M.triangles X.triangles
element_corners Straps M X = strap_corners (length M.particles) 0 M.edges X.edges
element_corners Nothing M X = tt

-- the first places of a table of elements whose corners are below p
pub table_below : (p n k : ℕ) (es : List Element) (verts : List ℕ) → All (Cornering p) es → Cornered k es n verts → n * k ≤ length verts → (t : ℕ) → t < n * k → get_or verts t 0 < p
table_below p n k es verts a C room t h =
    let all = each (λ (e : Element). e.corners) es in
    let e : get_or verts t 0 ≡ get_or all t 0 = sym (get_or-take (n * k) verts t 0 h) ∙ ap (λ (l : List ℕ). get_or l t 0) C.corners_are in
    let l : t < length all = omega (arith, ap length C.corners_are, length-take (n * k) verts) in
    subst (λ (x : ℕ). x < p) (sym e) (all_in (λ x. x < p) all t 0 l (all_each_of (Cornering p) (λ x. x < p) (λ (e : Element). e.corners) (λ e u. u) es a))

-- ---- the fan of a particle

-- what holds of all elements holds of a fan
fan_all : (P : Element → Type 0) (K : Kind) (M : Mesh) (v : ℕ) → All P (elements_of K M) → All P (fan_of K M v)
unfolding fan_of
fan_all P K M v h = all_sift P (λ (e : Element). stands v e.corners) (elements_of K M) h

pub fan_corners : (K : Kind) (M : Mesh) (v : ℕ) → indices_fit_of M ≡ true → All (Cornering (length M.particles)) (fan_of K M v)
fan_corners K M v e = fan_all (Cornering (length M.particles)) K M v (element_corners K M (accepted_indexed M e))

-- the ith number of a table of the fan
pub fan_number : (K : Kind) (M : Mesh) (v n : ℕ) (numbers verts : List ℕ) (measures : List Float) → Tabled (corners_per_of K) (fan_of K M v) n numbers verts measures
    → (i : ℕ) → i < n → get_or numbers i 0 < rows_of K M
fan_number K M v n numbers verts measures T i l =
    let ns = map (λ (e : Element). e.number) (fan_of K M v) in
    let e : get_or numbers i 0 ≡ get_or ns i 0 = sym (get_or-take n numbers i 0 l) ∙ ap (λ (s : List ℕ). get_or s i 0) T.numbers_are in
    let c = T.cornered.count in
    subst (λ (x : ℕ). x < rows_of K M) (sym e)
    (all_in (λ x. x < rows_of K M) ns i 0 (omega (arith, length-map (fan_of K M v) (λ (e : Element). e.number)))
    (all_map (λ (e : Element). e.number < rows_of K M) (λ x. x < rows_of K M) (λ (e : Element). e.number) (λ e u. u) (fan_of K M v) (fan_all (λ (e : Element). e.number < rows_of K M) K M v (element_numbers K M))))

-- ---- elements are few, and so are their corners

pub record Few (n k : ℕ) : Type 0 where
  pub width : (1 ≤ k) × (k ≤ 3)
  pub few : n ≤ 2048
  pub narrow : n * k ≤ 4096

pub few_of : (K : Kind) (ts : List Triangle) (es : List Edge) (n : ℕ) → length ts ≤ 1024 → length es ≤ 2048 → n ≤ length (elements_in K ts es) → Few n (corners_per_of K)
unfolding elements_in
few_of Triangles ts es n t e c = let h = triangles_length 0 ts in record { width = (omega arith, omega arith); few = omega arith; narrow = omega arith }
few_of Straps ts es n t e c = let h = straps_length 0 es in record { width = (omega arith, omega arith); few = omega arith; narrow = omega arith }
few_of Nothing ts es n t e c = record { width = (omega arith, omega arith); few = omega arith; narrow = omega arith }
