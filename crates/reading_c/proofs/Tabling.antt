-- Laws of an image whose elements stand in one table: the room that the table asks for, what it answers, and what is refused before it is made. Assumes nothing.
use Prim.Native.Nat.{ℕ, ◌+◌, ◌*◌, ◌≤◌}
use native.Mathlib.Omega.{arith}
use mathlib.Core.Path.{◌≡◌, refl, sym, ap, ◌∙◌}
use mathlib.Core.Bool.{Bool, true, ◌&&◌}
use mathlib.Core.List.{List}
use lib.ListN.{length, take, length-take, length-map}
use lib.Dec.{ltb}
use lib.Ieee.{Float}
use Rattle.lists.specs.Lists.{all}
use Rattle.lists.proofs.Stores.{tab_length}
use Rattle.model.specs.Elements.{Element, kind_of, elements_of, sum, rest_measure}
use Rattle.model.specs.Calls.{strictly, particles_ok}
use Rattle.mesh.specs.Given.{Given, mesh_of}
use Rattle.judge.specs.Checks.{fault_in, fault_of}
use Rattle.judge.proofs.Refusals.{fault_sized}
use Rattle.mesh_tables.specs.Accepted.{Accepted, MeshTabled}
use Rattle.mesh_tables.specs.Cornering.{MeshCornered}
use Rattle.mesh_tables.proofs.Accepted.{particles_count}
use Rattle.mesh_tables.proofs.Checked.{accepted}
use Rattle.image.specs.Words.{word_at_of, number_of, numbers_from}
use Rattle.image.specs.Image.{image_of, blocks_in, image_sized_of}
use Rattle.image.specs.Small.{small_image}
use Rattle.image.proofs.Loading.{sized_input, particles_few, triangles_few, edges_few}
use Rattle.image.proofs.Smallness.{small_loadable}
use Rattle.reading_c.specs.Elements.{Faultless, TableRoom, MarksRoom}

-- ---- room

pub accepted_image : {s : List ℕ} → Faultless s → Accepted (image_of s)
accepted_image {s} F = record { sized = sized_input s F.sized ∙ F.sized; indices = F.indices }

-- tables for the most that a mesh may have
pub large_room : {s : List ℕ} → Faultless s → TableRoom s 2048 4096 2048
large_room {s} F =
    let t = triangles_few s F.sized in
    let e = edges_few s F.sized in
    record { faultless = F; room = record { numbers = (omega arith, omega arith); verts = (omega arith, omega arith); measures = (omega arith, omega arith) } }

-- tables for a small image
pub small_room : {s : List ℕ} → Faultless s → small_image s ≡ true → TableRoom s 128 256 128
small_room {s} F h =
    let l = small_loadable s F.sized h in
    record {
      faultless = F;
      room = record {
        numbers = (omega (arith, l.corners_room), omega (arith, l.ends_room));
        verts = (omega (arith, l.corners_room), omega (arith, l.ends_room));
        measures = (omega (arith, l.corners_room), omega (arith, l.ends_room));
      };
    }

-- and for the marks of a list
pub large_marks : {s : List ℕ} (p : ℕ) (l : List ℕ) → Faultless s → p ≡ word_at_of s 0 → particles_ok (mesh_of (image_of s)) l ≡ true → MarksRoom s p l 2048
large_marks {s} p l F e ok = let h = particles_few s F.sized in record { particles = e; listed = ok; marks_long = omega arith }

pub small_marks : {s : List ℕ} (p : ℕ) (l : List ℕ) → Faultless s → small_image s ≡ true → p ≡ word_at_of s 0 → particles_ok (mesh_of (image_of s)) l ≡ true → MarksRoom s p l 128
small_marks {s} p l F h e ok = let b = (small_loadable s F.sized h).points_room in record { particles = e; listed = ok; marks_long = omega arith }

-- ---- a table that was made

-- it has as many numbers and measures as there are elements
pub numbers_few : {G : Given} {n k others : ℕ} {N Y : List ℕ} {L : List Float} → MeshTabled G n k others N Y L → n ≤ length N
numbers_few {G} {n} {N = N} T =
    let es : List Element = elements_of (kind_of (mesh_of G)) (mesh_of G) in
    omega (arith, T.tabled.cornered.count, ap length T.tabled.numbers_are, length-take n N, length-map es (λ (e : Element). e.number))

pub measures_few : {G : Given} {n k others : ℕ} {N Y : List ℕ} {L : List Float} → MeshTabled G n k others N Y L → n ≤ length L
measures_few {G} {n} {L = L} T =
    let es : List Element = elements_of (kind_of (mesh_of G)) (mesh_of G) in
    omega (arith, T.tabled.cornered.count, ap length T.tabled.measures_are, length-take n L, length-map es (λ (e : Element). e.measure))

-- their sum is the mesh's
pub sum_found : {G : Given} {n k others : ℕ} {N Y : List ℕ} {L : List Float} {r : Float} → MeshTabled G n k others N Y L → r ≡ sum (take n L) → r ≡ rest_measure (mesh_of G)
unfolding rest_measure
sum_found T e = e ∙ ap sum T.tabled.measures_are

-- its corners alone
pub only_corners : {G : Given} {n k others : ℕ} {N Y : List ℕ} {L : List Float} → MeshTabled G n k others N Y L → MeshCornered G n k Y
only_corners T = record { per = T.per; cornered = T.tabled.cornered; corners = T.corners; narrow = T.narrow }

-- ---- particles

pub particles_in : (s : List ℕ) → length (mesh_of (image_of s)).particles ≡ word_at_of s 0
unfolding image_of blocks_in numbers_from
particles_in s =
    let l = tab_length (8 * word_at_of s 0) (λ k. number_of (word_at_of s (4 + k))) in
    let c = particles_count (image_of s) in
    omega (arith, l, c)

-- as many marks as there are particles are enough
pub marks_wide : {s l : List ℕ} {p m : ℕ} (places : ℕ) → MarksRoom s p l m → places ≡ p → length (mesh_of (image_of s)).particles ≤ places
marks_wide {s} places R e = omega (arith, particles_in s, R.particles)

-- a list that was tested by their count
pub listed_by : (s l : List ℕ) (p : ℕ) (t : Bool) → p ≡ word_at_of s 0 → t ≡ (strictly l && all (λ x. ltb x p) l) → t ≡ particles_ok (mesh_of (image_of s)) l
unfolding particles_ok
listed_by s l p t e h = h ∙ ap (λ (n : ℕ). strictly l && all (λ x. ltb x n) l) (e ∙ sym (particles_in s))

-- ---- refusals

pub faultless : {s : List ℕ} → image_sized_of s ≡ true → Accepted (image_of s) → Faultless s
faultless h A = record { sized = h; indices = A.indices }

module _ (s : List ℕ) (h : image_sized_of s ≡ true) (code : ℕ) (e : code ≡ fault_in (mesh_of (image_of s))) where
  -- the fault that was told is the input's
  pub fault_is : code ≡ fault_of (image_of s)
  fault_is = e ∙ fault_sized (image_of s) true (sym (sized_input s h ∙ h)) refl

  -- where there is none, the image has the indices of a mesh
  pub no_fault : code ≡ 0 → Faultless s
  no_fault z = faultless h (accepted (image_of s) (sym fault_is ∙ z))
