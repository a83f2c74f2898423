-- The fronts of seven blocks that were read from an image, by numbers equal to its counts. Assumes nothing.
use Prim.Native.Nat.{ℕ, ◌+◌, ◌*◌}
use mathlib.Core.Path.{◌≡◌, subst}
use mathlib.Core.List.{List}
use lib.ListN.{take}
use lib.Ieee.{Float}
use Rattle.mesh.specs.Widths.{point_columns, particle_words}
use Rattle.image.specs.Words.{word_at_of, words_from, numbers_from}
use Rattle.image.specs.Image.{image_of, blocks_in}
use Rattle.image.specs.Loads.{Loaded}

-- what each of the seven reads gave
pub record Fronts (s : List ℕ) (p t e b : ℕ) (ps : List Float) (rs cs : List ℕ) (vs : List Float) (es : List ℕ) (ls : List Float) (os : List ℕ) : Type 0 where
  pub points_are : take (point_columns * p) ps ≡ numbers_from s 4 (point_columns * p)
  pub roots_are : take (2 * p) rs ≡ words_from s (4 + point_columns * p) (2 * p)
  pub corners_are : take (3 * t) cs ≡ words_from s (4 + particle_words * p) (3 * t)
  pub volumes_are : take (2 * t) vs ≡ numbers_from s (4 + particle_words * p + 3 * t) (2 * t)
  pub ends_are : take (4 * e) es ≡ words_from s (4 + particle_words * p + 5 * t) (4 * e)
  pub lengths_are : take (4 * e) ls ≡ numbers_from s (4 + particle_words * p + 5 * t + 4 * e) (4 * e)
  pub outline_are : take (2 * b) os ≡ words_from s (4 + particle_words * p + 5 * t + 8 * e) (2 * b)

module _ (s : List ℕ) (ps : List Float) (rs cs : List ℕ) (vs : List Float) (es : List ℕ) (ls : List Float) (os : List ℕ) where
  -- by the counts themselves
  at_counts : Fronts s (word_at_of s 0) (word_at_of s 1) (word_at_of s 2) (word_at_of s 3) ps rs cs vs es ls os → Loaded s ps rs cs vs es ls os
  unfolding image_of blocks_in
  at_counts f =
      record {
        points_are = f.points_are;
        roots_are = f.roots_are;
        corners_are = f.corners_are;
        volumes_are = f.volumes_are;
        ends_are = f.ends_are;
        lengths_are = f.lengths_are;
        outline_are = f.outline_are;
      }

  pub loaded : (p t e b : ℕ) → p ≡ word_at_of s 0 → t ≡ word_at_of s 1 → e ≡ word_at_of s 2 → b ≡ word_at_of s 3 → Fronts s p t e b ps rs cs vs es ls os → Loaded s ps rs cs vs es ls os
  loaded p t e b ep et ee eb f =
      at_counts
      (subst (λ (m : ℕ). Fronts s m (word_at_of s 1) (word_at_of s 2) (word_at_of s 3) ps rs cs vs es ls os) ep
      (subst (λ (m : ℕ). Fronts s p m (word_at_of s 2) (word_at_of s 3) ps rs cs vs es ls os) et
      (subst (λ (m : ℕ). Fronts s p t m (word_at_of s 3) ps rs cs vs es ls os) ee (subst (λ (m : ℕ). Fronts s p t e m ps rs cs vs es ls os) eb f))))
