-- Laws of an image that is loaded into local blocks: their room, and the input that their fronts are. Assumes nothing.
use Prim.Native.Nat.{ℕ, ◌*◌, ◌≤◌}
use native.Mathlib.Omega.{arith}
use mathlib.Core.Path.{◌≡◌, refl, sym, ap, ◌∙◌}
use mathlib.Core.Bool.{Bool, true, false, ◌&&◌}
use mathlib.Core.List.{List}
use lib.Dec.{leb}
use lib.ListN.{length, take}
use lib.Ieee.{Float}
use borrow.Author.Tests.{leb-true}
use Rattle.mesh.specs.Given.{given, sizes_fit_of}
use Rattle.mesh.specs.Widths.{point_columns}
use Rattle.image.specs.Words.{word_at_of}
use Rattle.image.specs.Image.{image_fits_of, image_of, counts_within_of, image_sized_of}
use Rattle.image.specs.Loads.{Loadable, Loaded}
use Rattle.image.proofs.Sizes.{fits_counts, fits_long, sizes_are}

-- both sides of a true conjunction hold
and_left : (a b : Bool) → a && b ≡ true → a ≡ true
and_left true b h = refl
and_left false b h = h

and_right : (a b : Bool) → a && b ≡ true → b ≡ true
and_right true b h = h
and_right false b h = let z : ◌≡◌ {A = ℕ} 0 1 = cc in absurd (omega arith)

module _ (s : List ℕ) (h : image_sized_of s ≡ true) where
  -- the two halves of the test
  fits : image_fits_of s ≡ true
  unfolding image_sized_of
  fits = and_left (image_fits_of s) (sizes_fit_of (image_of s)) h

  pub sized_input : sizes_fit_of (image_of s) ≡ image_sized_of s
  unfolding image_sized_of
  sized_input = and_right (image_fits_of s) (sizes_fit_of (image_of s)) h ∙ sym h

  within : counts_within_of s ≡ true
  unfolding image_sized_of
  within = sym (sizes_are s) ∙ and_right (image_fits_of s) (sizes_fit_of (image_of s)) h

  -- the counts are there
  pub sized_counts : 16 ≤ length s
  sized_counts = fits_counts s (image_fits_of s) refl fits

  -- each count is within its limit
  pub particles_few : word_at_of s 0 ≤ 1024
  unfolding counts_within_of
  particles_few = leb-true (word_at_of s 0) 1024 (and_left _ _ (and_left _ _ (and_left _ _ within)))

  pub triangles_few : word_at_of s 1 ≤ 1024
  unfolding counts_within_of
  triangles_few = leb-true (word_at_of s 1) 1024 (and_right (leb (word_at_of s 0) 1024) _ (and_left _ _ (and_left _ _ within)))

  pub edges_few : word_at_of s 2 ≤ 2048
  unfolding counts_within_of
  edges_few = leb-true (word_at_of s 2) 2048 (and_right (leb (word_at_of s 0) 1024 && leb (word_at_of s 1) 1024) _ (and_left _ _ within))

  pub boundary_few : word_at_of s 3 ≤ 2048
  unfolding counts_within_of
  boundary_few = leb-true (word_at_of s 3) 2048 (and_right (leb (word_at_of s 0) 1024 && leb (word_at_of s 1) 1024 && leb (word_at_of s 2) 2048) _ within)

  -- local blocks have room
  pub sized_loadable : Loadable s (1024 * point_columns) 2048 3072 2048 8192 8192 4096
  sized_loadable =
      record {
        long = fits_long s fits;
        points_room = omega (arith, particles_few);
        roots_room = omega (arith, particles_few);
        corners_room = omega (arith, triangles_few);
        volumes_room = omega (arith, triangles_few);
        ends_room = omega (arith, edges_few);
        lengths_room = omega (arith, edges_few);
        outline_room = omega (arith, boundary_few);
      }

-- seven equal blocks are one input
given_path : {p p' : List Float} {r r' c c' : List ℕ} {v v' : List Float} {e e' : List ℕ} {l l' : List Float} {o o' : List ℕ} → p ≡ p' → r ≡ r' → c ≡ c' → v ≡ v' → e ≡ e' → l ≡ l' → o ≡ o'
    → given p r c v e l o ≡ given p' r' c' v' e' l' o'
given_path {p} {p'} {r} {r'} {c} {c'} {v} {v'} {e} {e'} {l} {l'} {o} {o'} ep er ec ev ee el eo =
    ap (λ (z : List Float). given z r c v e l o) ep ∙ ap (λ (z : List ℕ). given p' z c v e l o) er ∙ ap (λ (z : List ℕ). given p' r' z v e l o) ec
    ∙ ap (λ (z : List Float). given p' r' c' z e l o) ev ∙ ap (λ (z : List ℕ). given p' r' c' v' z l o) ee ∙ ap (λ (z : List Float). given p' r' c' v' e' z o) el
    ∙ ap (λ (z : List ℕ). given p' r' c' v' e' l' z) eo

-- the fronts of loaded blocks are the image's input
pub fronts_are : (s : List ℕ) (p t e b : ℕ) (ps : List Float) (rs cs : List ℕ) (vs : List Float) (es : List ℕ) (ls : List Float) (os : List ℕ)
    → p ≡ word_at_of s 0 → t ≡ word_at_of s 1 → e ≡ word_at_of s 2 → b ≡ word_at_of s 3 → Loaded s ps rs cs vs es ls os
    → given (take (point_columns * p) ps) (take (2 * p) rs) (take (3 * t) cs) (take (2 * t) vs) (take (4 * e) es) (take (4 * e) ls) (take (2 * b) os) ≡ image_of s
fronts_are s p t e b ps rs cs vs es ls os ep et ee eb h =
    given_path (ap (λ (m : ℕ). take (point_columns * m) ps) ep ∙ h.points_are) (ap (λ (m : ℕ). take (2 * m) rs) ep ∙ h.roots_are) (ap (λ (m : ℕ). take (3 * m) cs) et ∙ h.corners_are)
    (ap (λ (m : ℕ). take (2 * m) vs) et ∙ h.volumes_are) (ap (λ (m : ℕ). take (4 * m) es) ee ∙ h.ends_are) (ap (λ (m : ℕ). take (4 * m) ls) ee ∙ h.lengths_are)
    (ap (λ (m : ℕ). take (2 * m) os) eb ∙ h.outline_are)
