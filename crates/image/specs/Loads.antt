-- The contract of the function that reads an image into seven lent blocks. Definitions only.
use Rattle.std.specs.Prelude.{ℕ, ◌*◌, ◌≤◌, ◌≡◌, List, length, take, Float}
use Rattle.mesh.specs.Widths.{point_columns}
use Rattle.image.specs.Words.{word_at_of}
use Rattle.image.specs.Image.{image_words, image_of}

-- the image has as many bytes as its counts say, and each lent block has room
pub record Loadable (s : List ℕ) (lp lr lc lv le ll lo : ℕ) : Type 0 where
  pub long : length s ≡ 4 * image_words (word_at_of s 0) (word_at_of s 1) (word_at_of s 2) (word_at_of s 3)
  pub points_room : point_columns * word_at_of s 0 ≤ lp
  pub roots_room : 2 * word_at_of s 0 ≤ lr
  pub corners_room : 3 * word_at_of s 1 ≤ lc
  pub volumes_room : 2 * word_at_of s 1 ≤ lv
  pub ends_room : 4 * word_at_of s 2 ≤ le
  pub lengths_room : 4 * word_at_of s 2 ≤ ll
  pub outline_room : 2 * word_at_of s 3 ≤ lo

-- the fronts of the lent blocks are the blocks of the image
pub record Loaded (s : List ℕ) (p : List Float) (r c : List ℕ) (v : List Float) (e : List ℕ) (l : List Float) (o : List ℕ) : Type 0 where
  pub points_are : take (point_columns * word_at_of s 0) p ≡ (image_of s).points
  pub roots_are : take (2 * word_at_of s 0) r ≡ (image_of s).roots
  pub corners_are : take (3 * word_at_of s 1) c ≡ (image_of s).corners
  pub volumes_are : take (2 * word_at_of s 1) v ≡ (image_of s).volumes
  pub ends_are : take (4 * word_at_of s 2) e ≡ (image_of s).ends
  pub lengths_are : take (4 * word_at_of s 2) l ≡ (image_of s).lengths
  pub outline_are : take (2 * word_at_of s 3) o ≡ (image_of s).outline
