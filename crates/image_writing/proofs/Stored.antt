-- Laws of a stored image: the place of each block in it, and the words that all of them are. Assumes nothing.
use Prim.Native.Nat.{ℕ, ◌+◌, ◌-◌, ◌*◌, ◌/◌, ◌≤◌, ◌<◌, zero-le}
use native.Mathlib.Omega.{arith}
use mathlib.Core.Path.{◌≡◌, refl, sym, ap, ◌∙◌}
use mathlib.Core.List.{List, [], ◌∷◌, ◌++◌}
use lib.ListN.{length, take, length-append}
use lib.Seq.{length-take-le}
use lib.Ieee.{Float}
use Rattle.mesh.specs.declared.Counts.{Counts}
use Rattle.mesh.specs.Widths.{point_columns, particle_words}
use Rattle.image.specs.Words.{put_words, bits_in_of}
use Rattle.lists.specs.LeftOut.{left_out}
use Rattle.image_writing.specs.Stores.{fronts_of, left_fronts, Placed, block_words, left_words, Standing, StandingWith, Storable, StorableWithout}
use Rattle.image_writing.proofs.Left.{none_rising, rising_all, left_fronts_length, fronts_length}
use Rattle.image_writing.proofs.Puts.{puts_then, bits_length}

-- ---- the place of each block

module _ (k : Counts) (s : ℕ) (gone : List ℕ) (lp lr lc lv le ll lo at bytes : ℕ) (h : StorableWithout k s gone lp lr lc lv le ll lo at bytes) (b : ℕ) (e : b ≡ bytes) where
  -- where nothing is listed
  all_placed : (w n x l : ℕ) → 0 < w → n ≤ l / w → 4 * (x + w * n) ≤ b → Placed w n 0 gone x l b
  all_placed w n x l some few room =
      let z : n - 0 ≡ n = omega arith in
      record { some = some; few = few; listed = zero-le; rising = none_rising gone n; room = omega (arith, ap (λ (m : ℕ). w * m) z, room) }

  pub points_placed : Placed point_columns k.particles 0 gone (at + 4) lp b
  points_placed = all_placed point_columns k.particles (at + 4) lp (omega arith) h.stands.points (omega (arith, h.room))

  pub roots_placed : Placed 2 k.particles 0 gone (at + 4 + point_columns * k.particles) lr b
  roots_placed = all_placed 2 k.particles (at + 4 + point_columns * k.particles) lr (omega arith) h.stands.roots (omega (arith, h.room))

  pub corners_placed : Placed 3 k.triangles 0 gone (at + 4 + particle_words * k.particles) lc b
  corners_placed = all_placed 3 k.triangles (at + 4 + particle_words * k.particles) lc (omega arith) h.stands.corners (omega (arith, h.room))

  pub volumes_placed : Placed 2 k.triangles 0 gone (at + 4 + particle_words * k.particles + 3 * k.triangles) lv b
  volumes_placed = all_placed 2 k.triangles (at + 4 + particle_words * k.particles + 3 * k.triangles) lv (omega arith) h.stands.volumes (omega (arith, h.room))

  -- the edges that stay are k.edges
  pub ends_placed : Placed 4 (k.edges + s) s gone (at + 4 + particle_words * k.particles + 5 * k.triangles) le b
  ends_placed = record { some = omega arith; few = h.stands.ends; listed = h.listed; rising = h.rising; room = omega (arith, h.room) }

  pub lengths_placed : Placed 4 (k.edges + s) s gone (at + 4 + particle_words * k.particles + 5 * k.triangles + 4 * k.edges) ll b
  lengths_placed = record { some = omega arith; few = h.stands.lengths; listed = h.listed; rising = h.rising; room = omega (arith, h.room) }

  pub outline_placed : Placed 2 k.boundary 0 gone (at + 4 + particle_words * k.particles + 5 * k.triangles + 8 * k.edges) lo b
  outline_placed = all_placed 2 k.boundary (at + 4 + particle_words * k.particles + 5 * k.triangles + 8 * k.edges) lo (omega arith) h.stands.outline (omega (arith, h.room))

-- ---- block behind block

-- the words ws stand from word `at` on, and word b is behind them
record Reached (s t ws : List ℕ) (at b : ℕ) : Type 0 where
  pub words : t ≡ put_words s at ws
  pub place : b ≡ at + length ws

reach_more : (s t t' ws vs : List ℕ) (at b b' : ℕ) → Reached s t ws at b → t' ≡ put_words t b vs → b' ≡ b + length vs → 4 * b ≤ length s → Reached s t' (ws ++ vs) at b'
reach_more s t t' ws vs at b b' r e f h = record { words = puts_then s t t' at b ws vs r.words e r.place h; place = omega (arith, r.place, length-append ws vs) }

-- all of them
pub stored_all : (k : Counts) (m : ℕ) (gone : List ℕ) (p : List Float) (r c : List ℕ) (v : List Float) (e : List ℕ) (l : List Float) (o : List ℕ) (at : ℕ) (s s₀ s₁ s₂ s₃ s₄ s₅ s₆ s₇ : List ℕ)
    → StorableWithout k m gone (length p) (length r) (length c) (length v) (length e) (length l) (length o) at (length s)
    → s₀ ≡ put_words s at (k.particles ∷ k.triangles ∷ k.edges ∷ k.boundary ∷ [])
    → s₁ ≡ put_words s₀ (at + 4) (bits_in_of (left_fronts point_columns k.particles (length p / point_columns) (take 0 gone) p))
    → s₂ ≡ put_words s₁ (at + 4 + point_columns * k.particles) (left_fronts 2 k.particles (length r / 2) (take 0 gone) r)
    → s₃ ≡ put_words s₂ (at + 4 + particle_words * k.particles) (left_fronts 3 k.triangles (length c / 3) (take 0 gone) c)
    → s₄ ≡ put_words s₃ (at + 4 + particle_words * k.particles + 3 * k.triangles) (bits_in_of (left_fronts 2 k.triangles (length v / 2) (take 0 gone) v))
    → s₅ ≡ put_words s₄ (at + 4 + particle_words * k.particles + 5 * k.triangles) (left_fronts 4 (k.edges + m) (length e / 4) (take m gone) e)
    → s₆ ≡ put_words s₅ (at + 4 + particle_words * k.particles + 5 * k.triangles + 4 * k.edges) (bits_in_of (left_fronts 4 (k.edges + m) (length l / 4) (take m gone) l))
    → s₇ ≡ put_words s₆ (at + 4 + particle_words * k.particles + 5 * k.triangles + 8 * k.edges) (left_fronts 2 k.boundary (length o / 2) (take 0 gone) o)
    → s₇ ≡ put_words s at (left_words k (take m gone) p r c v e l o)
unfolding left_words fronts_of left_fronts left_out
stored_all k m gone p r c v e l o at s s₀ s₁ s₂ s₃ s₄ s₅ s₆ s₇ h q₀ q₁ q₂ q₃ q₄ q₅ q₆ q₇ =
    let P = k.particles in
    let T = k.triangles in
    let E = k.edges in
    let is : List ℕ = take m gone in
    let S = h.stands in
    let z : length is ≡ m = length-take-le m gone h.listed in
    let n₁ : length (bits_in_of (fronts_of point_columns P (length p / point_columns) p)) ≡ point_columns * P = bits_length (fronts_of point_columns P (length p / point_columns) p) ∙ fronts_length point_columns P (length p / point_columns) p S.points (omega arith) in
    let n₂ = fronts_length 2 P (length r / 2) r S.roots (omega arith) in
    let n₃ = fronts_length 3 T (length c / 3) c S.corners (omega arith) in
    let n₄ : length (bits_in_of (fronts_of 2 T (length v / 2) v)) ≡ 2 * T = bits_length (fronts_of 2 T (length v / 2) v) ∙ fronts_length 2 T (length v / 2) v S.volumes (omega arith) in
    let up = rising_all gone m (E + m) h.rising h.listed in
    let n₅ : length (left_fronts 4 (E + m) (length e / 4) is e) ≡ 4 * E = left_fronts_length 4 (E + m) (length e / 4) is e S.ends (omega arith) up ∙ omega (arith, z) in
    let n₆ : length (bits_in_of (left_fronts 4 (E + m) (length l / 4) is l)) ≡ 4 * E = bits_length (left_fronts 4 (E + m) (length l / 4) is l) ∙ left_fronts_length 4 (E + m) (length l / 4) is l S.lengths (omega arith) up ∙ omega (arith, z) in
    let room = h.room in
    let r₀ : Reached s s₀ (P ∷ T ∷ E ∷ k.boundary ∷ []) at (at + 4) = record { words = q₀; place = omega arith } in
    let r₁ = reach_more s s₀ s₁ _ (bits_in_of (fronts_of point_columns P (length p / point_columns) p)) at (at + 4) (at + 4 + point_columns * P) r₀ q₁ (omega (arith, n₁)) (omega (arith, room)) in
    let r₂ = reach_more s s₁ s₂ _ (fronts_of 2 P (length r / 2) r) at (at + 4 + point_columns * P) (at + 4 + particle_words * P) r₁ q₂ (omega (arith, n₂)) (omega (arith, room)) in
    let r₃ = reach_more s s₂ s₃ _ (fronts_of 3 T (length c / 3) c) at (at + 4 + particle_words * P) (at + 4 + particle_words * P + 3 * T) r₂ q₃ (omega (arith, n₃)) (omega (arith, room)) in
    let r₄ = reach_more s s₃ s₄ _ (bits_in_of (fronts_of 2 T (length v / 2) v)) at (at + 4 + particle_words * P + 3 * T) (at + 4 + particle_words * P + 5 * T) r₃ q₄ (omega (arith, n₄)) (omega (arith, room)) in
    let r₅ = reach_more s s₄ s₅ _ (left_fronts 4 (E + m) (length e / 4) is e) at (at + 4 + particle_words * P + 5 * T) (at + 4 + particle_words * P + 5 * T + 4 * E) r₄ q₅ (omega (arith, n₅)) (omega (arith, room)) in
    let r₆ = reach_more s s₅ s₆ _ (bits_in_of (left_fronts 4 (E + m) (length l / 4) is l)) at (at + 4 + particle_words * P + 5 * T + 4 * E) (at + 4 + particle_words * P + 5 * T + 8 * E) r₅ q₆ (omega (arith, n₆)) (omega (arith, room)) in
    puts_then s s₆ s₇ at (at + 4 + particle_words * P + 5 * T + 8 * E) _ (fronts_of 2 k.boundary (length o / 2) o) r₆.words q₇ r₆.place (omega (arith, room))
    ∙ ap (λ (x : ℕ). put_words s at ((P ∷ T ∷ E ∷ k.boundary ∷ []) ++ bits_in_of (fronts_of point_columns P (length p / point_columns) p) ++ fronts_of 2 P (length r / 2) r ++ fronts_of 3 T (length c / 3) c ++ bits_in_of (fronts_of 2 T (length v / 2) v)
    ++ left_fronts 4 (E + x) (length e / 4) is e ++ bits_in_of (left_fronts 4 (E + x) (length l / 4) is l) ++ fronts_of 2 k.boundary (length o / 2) o)) (sym z)

-- ---- nothing listed

pub left_words_none : (k : Counts) (p : List Float) (r c : List ℕ) (v : List Float) (e : List ℕ) (l : List Float) (o : List ℕ) → left_words k [] p r c v e l o ≡ block_words k p r c v e l o
unfolding left_words block_words fronts_of left_fronts left_out
left_words_none k p r c v e l o =
    let z : k.edges + length {A = ℕ} [] ≡ k.edges = omega arith in
    ap (λ (x : ℕ). (k.particles ∷ k.triangles ∷ k.edges ∷ k.boundary ∷ []) ++ bits_in_of (fronts_of point_columns k.particles (length p / point_columns) p) ++ fronts_of 2 k.particles (length r / 2) r
    ++ fronts_of 3 k.triangles (length c / 3) c ++ bits_in_of (fronts_of 2 k.triangles (length v / 2) v) ++ fronts_of 4 x (length e / 4) e ++ bits_in_of (fronts_of 4 x (length l / 4) l) ++ fronts_of 2 k.boundary (length o / 2) o) z

pub standing_with : (k : Counts) (lp lr lc lv le ll lo : ℕ) → Standing k lp lr lc lv le ll lo → StandingWith k 0 lp lr lc lv le ll lo
standing_with k lp lr lc lv le ll lo h =
    record { points = h.points; roots = h.roots; corners = h.corners; volumes = h.volumes; ends = omega (arith, h.ends); lengths = omega (arith, h.lengths); outline = h.outline }

pub storable_without : (k : Counts) (gone : List ℕ) (lp lr lc lv le ll lo at bytes : ℕ) → Storable k lp lr lc lv le ll lo at bytes → StorableWithout k 0 gone lp lr lc lv le ll lo at bytes
storable_without k gone lp lr lc lv le ll lo at bytes h =
    record {
      stands = standing_with k lp lr lc lv le ll lo (record { points = h.points; roots = h.roots; corners = h.corners; volumes = h.volumes; ends = h.ends; lengths = h.lengths; outline = h.outline });
      listed = zero-le;
      rising = none_rising gone _;
      room = h.room;
    }
