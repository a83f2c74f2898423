-- The contracts of the functions that write an image from seven blocks. Definitions only.
use Rattle.std.specs.Prelude.{ℕ, ◌+◌, ◌-◌, ◌*◌, ◌/◌, ◌≤◌, ◌<◌, List, [], ◌∷◌, ◌++◌, length, take, drop, Float}
use Rattle.lists.specs.LeftOut.{Rising, left_out}
use Rattle.columns.specs.Block.{stack}
use Rattle.mesh.specs.declared.Counts.{Counts}
use Rattle.mesh.specs.Widths.{point_columns, corner_columns, end_columns, length_columns, root_columns, volume_columns, side_columns}
use Rattle.image.specs.Words.{bits_in_of}
use Rattle.image.specs.Image.{image_words}

-- ---- columns

-- the first n places of each of w columns, of R places each, one column behind the other
unfoldable pub fronts_of : {A : Type 0} → ℕ → ℕ → ℕ → List A → List A
fronts_of w n R s = stack w (λ c. take n (drop (c * R) s))

-- the same without those at the listed places
unfoldable pub left_fronts : {A : Type 0} → ℕ → ℕ → ℕ → List ℕ → List A → List A
left_fronts w n R is s = stack w (λ c. left_out is (take n (drop (c * R) s)))

-- s places of a column of n are listed, and the bytes have room for the words of the others from word `at` on
pub record ColumnPlaced (n s : ℕ) (gone : List ℕ) (at bytes : ℕ) : Type 0 where
  pub listed : s ≤ length gone
  pub rising : Rising gone s n
  pub room : 4 * (at + (n - s)) ≤ bytes

-- n places are not more than a column of a block of w columns has, and s of them are listed; the bytes have room for the words of the others from word `at` on
pub record Placed (w n s : ℕ) (gone : List ℕ) (at block bytes : ℕ) : Type 0 where
  pub some : 0 < w
  pub few : n ≤ block / w
  pub listed : s ≤ length gone
  pub rising : Rising gone s n
  pub room : 4 * (at + w * (n - s)) ≤ bytes

-- ---- the words of an image

-- the words of the image whose rows are the first of seven blocks
unfoldable pub block_words : Counts → List Float → List ℕ → List ℕ → List Float → List ℕ → List Float → List ℕ → List ℕ
block_words k p r c v e l o =
    (k.particles ∷ k.triangles ∷ k.edges ∷ k.boundary ∷ []) ++ bits_in_of (fronts_of point_columns k.particles (length p / point_columns) p) ++ fronts_of 2 k.particles (length r / 2) r
    ++ fronts_of 3 k.triangles (length c / 3) c ++ bits_in_of (fronts_of 2 k.triangles (length v / 2) v) ++ fronts_of 4 k.edges (length e / 4) e
    ++ bits_in_of (fronts_of 4 k.edges (length l / 4) l) ++ fronts_of 2 k.boundary (length o / 2) o

-- the words of the image whose rows are the first of seven blocks without the edges at the listed places
unfoldable pub left_words : Counts → List ℕ → List Float → List ℕ → List ℕ → List Float → List ℕ → List Float → List ℕ → List ℕ
left_words k is p r c v e l o =
    (k.particles ∷ k.triangles ∷ k.edges ∷ k.boundary ∷ []) ++ bits_in_of (fronts_of point_columns k.particles (length p / point_columns) p) ++ fronts_of 2 k.particles (length r / 2) r
    ++ fronts_of 3 k.triangles (length c / 3) c ++ bits_in_of (fronts_of 2 k.triangles (length v / 2) v) ++ left_fronts 4 (k.edges + length is) (length e / 4) is e
    ++ bits_in_of (left_fronts 4 (k.edges + length is) (length l / 4) is l) ++ fronts_of 2 k.boundary (length o / 2) o

-- ---- where the rows stand

-- the rows stand in seven blocks of these lengths
pub record Standing (k : Counts) (lp lr lc lv le ll lo : ℕ) : Type 0 where
  pub points : k.particles ≤ lp / point_columns
  pub roots : k.particles ≤ lr / root_columns
  pub corners : k.triangles ≤ lc / corner_columns
  pub volumes : k.triangles ≤ lv / volume_columns
  pub ends : k.edges ≤ le / end_columns
  pub lengths : k.edges ≤ ll / length_columns
  pub outline : k.boundary ≤ lo / side_columns

-- the same where s edges more than those of the image stand in the blocks
pub record StandingWith (k : Counts) (s lp lr lc lv le ll lo : ℕ) : Type 0 where
  pub points : k.particles ≤ lp / point_columns
  pub roots : k.particles ≤ lr / root_columns
  pub corners : k.triangles ≤ lc / corner_columns
  pub volumes : k.triangles ≤ lv / volume_columns
  pub ends : k.edges + s ≤ le / end_columns
  pub lengths : k.edges + s ≤ ll / length_columns
  pub outline : k.boundary ≤ lo / side_columns

-- the rows stand in seven blocks, and the bytes have room for an image from word `at` on
pub record Storable (k : Counts) (lp lr lc lv le ll lo at bytes : ℕ) : Type 0 where
  pub points : k.particles ≤ lp / point_columns
  pub roots : k.particles ≤ lr / root_columns
  pub corners : k.triangles ≤ lc / corner_columns
  pub volumes : k.triangles ≤ lv / volume_columns
  pub ends : k.edges ≤ le / end_columns
  pub lengths : k.edges ≤ ll / length_columns
  pub outline : k.boundary ≤ lo / side_columns
  pub room : 4 * (at + image_words k.particles k.triangles k.edges k.boundary) ≤ bytes

-- the same where s edges more stand in the blocks, whose numbers are the first of the list and rise
pub record StorableWithout (k : Counts) (s : ℕ) (gone : List ℕ) (lp lr lc lv le ll lo at bytes : ℕ) : Type 0 where
  pub stands : StandingWith k s lp lr lc lv le ll lo
  pub listed : s ≤ length gone
  pub rising : Rising gone s (k.edges + s)
  pub room : 4 * (at + image_words k.particles k.triangles k.edges k.boundary) ≤ bytes
