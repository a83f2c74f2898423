-- The sides of a fan by the blade, as tables hold them. Only contracts between workers need this file. Definitions only.
use Rattle.std.specs.Prelude.{ℕ, ◌*◌, ◌/◌, ◌<◌, ◌≤◌, ◌≡◌, Bool, false, ◌⊎◌, List, map, length, get_or, take, drop, Float}
use Rattle.std.specs.Bool.{beq}
use Rattle.std.specs.Float.Ieee.{lt, ne}
use Rattle.lists.specs.Lists.{pick, tab, head_or}
use Rattle.float.specs.Numbers.{zero32}
use Rattle.blade.specs.Points.{centroid_of}
use Rattle.model.specs.Mesh.{Mesh}
use Rattle.model.specs.Elements.{Kind, corners_per_of, fan_of}
use Rattle.model.specs.Cut.{Blade, offset, blade_sides}
use Rattle.elements.specs.Table.{Cornered}
use Rattle.split_plan.specs.Opened.{place_in, CornersBelow}
use Rattle.marks.specs.Marking.{PlacesIn}
use Rattle.mesh.specs.Widths.{point_columns}

-- two or three corners, in the block of points
pub record RowIn (row : List ℕ) (lp : ℕ) : Type 0 where
  pub size : (length row ≡ 3) ⊎ (length row ≡ 2)
  pub corners_in : (j : ℕ) → j < length row → get_or row j 0 < lp / point_columns

-- is the middle of a row of corners to the left, by the block of points
unfoldable pub left_in : Blade → List Float → List ℕ → Bool
left_in B points row = lt zero32 (offset B (centroid_of (map (place_in points) row)))

-- row i of a table, k to each
abbrev pub row_of : ℕ → List ℕ → ℕ → List ℕ
row_of k verts i = take k (drop (i * k) verts)

-- the same of n rows of a table
unfoldable pub lefts_in : Blade → List Float → ℕ → ℕ → List ℕ → List Bool
lefts_in B points k n verts = tab n (λ i. left_in B points (row_of k verts i))

-- the kept side: v's own, or that of the first row
unfoldable pub kept_in : Blade → List Float → ℕ → ℕ → ℕ → List ℕ → Bool
kept_in B points v k n verts = let own = offset B (place_in points v) in pick (ne own zero32) (lt zero32 own) (head_or false (lefts_in B points k n verts))

-- the side of an element that is left or not, where the kept side is
abbrev pub side_by : Bool → Bool → ℕ
side_by kept left = pick (beq left kept) 0 1

-- v and the corners of n rows, k to each, lie in the block of points
pub record RowsIn (v k n : ℕ) (verts : List ℕ) (lp : ℕ) : Type 0 where
  pub size : (k ≡ 3) ⊎ (k ≡ 2)
  pub here : v < lp / point_columns
  pub long : n * k ≤ length verts
  pub corners_in : CornersBelow (lp / point_columns) n k verts

-- and there is room for n sides
pub record SidesRoom (v k n : ℕ) (verts : List ℕ) (lp ls : ℕ) : Type 0 where
  pub here : v < lp / point_columns
  pub few : n ≤ 2048
  pub long : n * k ≤ length verts
  pub sides_long : n ≤ ls
  pub corners_in : CornersBelow (lp / point_columns) n k verts

-- the sides of v's fan by the blade, in every mesh with these places whose fan stands in the table
pub record SidesBy (K : Kind) (B : Blade) (v n : ℕ) (verts : List ℕ) (points : List Float) (sides : List ℕ) : Type 0 where
  pub are : (M : Mesh) (p : ℕ) → Cornered (corners_per_of K) (fan_of K M v) n verts → PlacesIn M p points → v < p → CornersBelow p n (corners_per_of K) verts → take n sides ≡ blade_sides K B M v
  pub two : (i : ℕ) → i < n → get_or sides i 0 < 2
