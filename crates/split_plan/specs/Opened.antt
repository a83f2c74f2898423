-- How the tables of a fan and its groups hold an opening of the model. Only contracts between workers need this file. Definitions only.
use Rattle.std.specs.Prelude.{ℕ, ◌*◌, ◌/◌, ◌<◌, ◌≤◌, ◌≡◌, List, [], length, get_or, take, drop, leb, Float}
use Rattle.std.specs.Float.{nan}
use Rattle.std.specs.Float.Ieee.{lt}
use Rattle.lists.specs.Lists.{pick, sift}
use Rattle.float.specs.Numbers.{over, zero32, count32, share_of}
use Rattle.blade.specs.declared.Point.{Point}
use Rattle.columns.specs.Block.{cell}
use Rattle.model.specs.Mesh.{Mesh}
use Rattle.model.specs.Elements.{Element, rest_of}
use Rattle.model.specs.Split.{Part, Opening, parts_of, ring}
use Rattle.mesh.specs.Widths.{point_columns}

-- the part that is read past the end of a fan
abbrev pub blank_part : Part
blank_part = record { number = 0; corners = []; measure = nan; group = 0 }

-- the ith part of a fan
abbrev pub part_at : Opening → ℕ → Part
part_at O i = get_or O.fan i blank_part

-- the opening at v of a fan of these elements with their groups
abbrev pub opening_by : ℕ → ℕ → List Element → List ℕ → ℕ → Opening
opening_by v before es gs count = record { v = v; before = before; fan = parts_of es gs; count = count }

-- the corners, k to each, and the groups of the n parts of a fan
pub record Ringed (k : ℕ) (O : Opening) (n : ℕ) (verts groups : List ℕ) : Type 0 where
  pub size : length O.fan ≡ n
  pub corners_are : (i : ℕ) → i < n → (part_at O i).corners ≡ take k (drop (i * k) verts)
  pub group_is : (i : ℕ) → i < n → (part_at O i).group ≡ get_or groups i 0
  pub below : (i : ℕ) → i < n → get_or groups i 0 < O.count

-- their measures
pub record Weighted (O : Opening) (n : ℕ) (measures : List Float) : Type 0 where
  pub measure_is : (i : ℕ) → i < n → (part_at O i).measure ≡ get_or measures i nan

-- their numbers: rising, so that no two are the same
pub record Numbered (O : Opening) (n : ℕ) (numbers : List ℕ) : Type 0 where
  pub number_is : (i : ℕ) → i < n → (part_at O i).number ≡ get_or numbers i 0
  pub rising_are : (i j : ℕ) → i < j → j < n → get_or numbers i 0 < get_or numbers j 0

-- tables of n rows, with k corners to each, fit what is lent
pub record RingRoom (n k lv lg : ℕ) : Type 0 where
  pub few : n ≤ 2048
  pub corners : k ≤ 3
  pub verts : n * k ≤ lv
  pub groups : n ≤ lg

-- the groups of a ring from `from` on
unfoldable pub ring_from : Opening → ℕ → ℕ → List ℕ
ring_from O from x = sift (λ g. leb from g) (ring O x)

-- the mass of a group of weight w, of a mass m that `count` groups of weight `total` share
unfoldable pub mass_by : Float → Float → Float → ℕ → Float
mass_by m w total count = pick (lt zero32 total) (share_of m w total) (over m (count32 count))

-- where particle w is, by the block of points
abbrev pub place_in : List Float → ℕ → Point
place_in points w = record { x = cell nan (length points / point_columns) points 0 w; y = cell nan (length points / point_columns) points 1 w }

-- where it rests
abbrev pub rest_in : List Float → ℕ → Point
rest_in points w = record { x = cell nan (length points / point_columns) points 2 w; y = cell nan (length points / point_columns) points 3 w }

-- the first p particles of M rest where the block says
abbrev pub RestsIn : Mesh → ℕ → List Float → Type 0
RestsIn M p points = (w : ℕ) → w < p → rest_of M w ≡ rest_in points w

-- the corners of all parts name some of the first p particles
abbrev pub CornersBelow : ℕ → ℕ → ℕ → List ℕ → Type 0
CornersBelow p n k verts = (i : ℕ) → i < n * k → get_or verts i 0 < p

-- an opening in tables, and a mesh whose first p particles rest as the points say
pub record OpeningIn (O : Opening) (M : Mesh) (v before k n count p : ℕ) (verts groups : List ℕ) (points : List Float) : Type 0 where
  pub at : O.v ≡ v
  pub before_is : O.before ≡ before
  pub count_is : O.count ≡ count
  pub ringed : Ringed k O n verts groups
  pub rests : RestsIn M p points
