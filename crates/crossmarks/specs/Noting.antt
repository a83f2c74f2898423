-- Marks of crossings in the words of a log, read off lent blocks. Only contracts between workers need this file. Definitions only.
use Rattle.std.specs.Prelude.{ℕ, ◌+◌, ◌*◌, ◌/◌, ◌<◌, ◌≤◌, ◌≡◌, Bool, false, List, [], ◌∷◌, ◌++◌, map, length, get_or, eqb, Float}
use Rattle.std.specs.Float.{nan}
use Rattle.std.specs.Float.Ieee.{lt}
use Rattle.float.specs.Numbers.{times, zero32}
use Rattle.blade.specs.declared.Point.{Point}
use Rattle.blade.specs.Blade.{offset_of}
use Rattle.lists.specs.Lists.{pick, each, pairs, tab, up_to}
use Rattle.model.specs.Cut.{Blade, mark_at}
use Rattle.mesh.specs.Log.{Words, words_of, log_at}
use Rattle.mesh.specs.Widths.{point_columns, corner_columns, end_columns, entry_words}
use Rattle.mesh.specs.Limits.{particle_limit, triangle_limit, edge_limit}
use Rattle.work.specs.Places.{EndsIn, CornersIn}
use Rattle.split_plan.specs.Opened.{place_in}
use Rattle.marks.specs.Marking.{hit_in}
use Rattle.marks.specs.declared.Rule.{Rule}
use Rattle.marks.specs.declared.Rule.TheVariants.{Rounded, Signs}

-- the words of a pair's mark, by the block of points
unfoldable pub pair_marks : Blade → List Float → ℕ × ℕ → List Words
pair_marks B points xy = map words_of (mark_at xy (hit_in B points xy))

-- those of all pairs of a row of corners
unfoldable pub row_marks : Blade → List Float → List ℕ → List Words
row_marks B points row = each (pair_marks B points) (pairs row)

-- those of the first t triangles of a block
unfoldable pub triangle_marks : Blade → List Float → ℕ → List ℕ → List Words
triangle_marks B points t corners =
    each (row_marks B points) (tab t (λ i. get_or corners i 0 ∷ get_or corners (length corners / corner_columns + i) 0 ∷ get_or corners (2 * (length corners / corner_columns) + i) 0 ∷ []))

-- those of edge i of a block, if it is a strap
unfoldable pub strap_mark : Blade → List Float → List ℕ → ℕ → List Words
strap_mark B points ends i = pick (eqb (get_or ends (2 * (length ends / end_columns) + i) 0) 1) (pair_marks B points (get_or ends i 0, get_or ends (length ends / end_columns + i) 0)) []

-- those of the first e edges
unfoldable pub strap_marks : Blade → List Float → ℕ → List ℕ → List Words
strap_marks B points e ends = each (strap_mark B points ends) (up_to e)

-- behind the n entries of a log come these: r in all, and if the log has room for r they stand there
pub record Noted (more : List Words) (n : ℕ) (log log' : List ℕ) (r : ℕ) : Type 0 where
  pub count : r ≡ n + length more
  pub entries : r ≤ length log / entry_words → log_at r log' ≡ log_at n log ++ more

-- ---- offsets

-- are two offsets strictly on one side of the blade's line, by the product that the blade test forms; by signs nothing is told
abbrev pub beside_by : Rule → Float → Float → Bool
beside_by Rounded x y = lt zero32 (times x y)
beside_by Signs x y = false

-- the offset of particle w from the blade's line stands in a table
pub record OffsetAt (b0 b1 : Point) (points offsets : List Float) (w : ℕ) : Type 0 where
  pub long : w < length offsets
  pub is : get_or offsets w nan ≡ offset_of b0 b1 (place_in points w)

-- and so do those of the first p
pub record OffsetsAre (b0 b1 : Point) (points offsets : List Float) (p : ℕ) : Type 0 where
  pub at : (w : ℕ) → w < p → OffsetAt b0 b1 points offsets w

-- ---- what the workers ask

-- x and y have places among lp numbers, and all three are small
pub record PairRoom (x y n lp : ℕ) : Type 0 where
  pub first : x < lp / point_columns
  pub second : y < lp / point_columns
  pub small : (x < 65536) × (y < 65536)
  pub few : n < 65536

-- the corners of t triangles are among particles that have places and offsets, and all numbers are small
pub record TriangleRoom (b0 b1 : Point) (t n : ℕ) (points : List Float) (corners : List ℕ) (offsets : List Float) : Type 0 where
  pub columns : t ≤ length corners / corner_columns
  pub particles : ℕ
  pub corners_in : CornersIn particles t corners
  pub places : (particles ≤ particle_limit) × (particles ≤ length points / point_columns)
  pub offsets_are : OffsetsAre b0 b1 points offsets particles
  pub few : (t ≤ triangle_limit) × (n ≤ 4096)

-- the ends of e edges are among particles that have places and offsets, and all numbers are small
pub record StrapRoom (b0 b1 : Point) (e n : ℕ) (points : List Float) (ends : List ℕ) (offsets : List Float) : Type 0 where
  pub columns : e ≤ length ends / end_columns
  pub particles : ℕ
  pub ends_in : EndsIn particles e ends
  pub places : (particles ≤ particle_limit) × (particles ≤ length points / point_columns)
  pub offsets_are : OffsetsAre b0 b1 points offsets particles
  pub few : (e ≤ edge_limit) × (n ≤ 4096)
