-- What the readers of an opening ask and answer, for every opening that their tables hold. Only contracts between workers need this file. Definitions only.
use Rattle.std.specs.Prelude.{ℕ, ◌+◌, ◌/◌, ◌<◌, ◌≤◌, ◌≡◌, Bool, not, List, length, get_or, Float, ◌⊎◌}
use Rattle.lists.specs.Lists.{stands, any, fold, empty, head_or}
use Rattle.float.specs.Numbers.{over, times, max_of, small}
use Rattle.blade.specs.declared.Point.{Point}
use Rattle.blade.specs.Points.{dot_of, length_of}
use Rattle.model.specs.Mesh.{Mesh}
use Rattle.model.specs.Elements.{besides}
use Rattle.model.specs.Split.{Opening, Best, better, score_of, scored, weight_of, total_of, ring, parted, toward, copy_for_of}
use Rattle.split_plan.specs.Opened.{part_at, Ringed, Weighted, RingRoom, ring_from, rest_in, RestsIn, CornersBelow}
use Rattle.split_plan.specs.declared.Best.{Best as BestCase}
use Rattle.mesh.specs.Widths.{point_columns}

-- does group g hold x
pub record RingHas (x g n k : ℕ) (verts groups : List ℕ) (r : Bool) : Type 0 where
  pub is : (O : Opening) → Ringed k O n verts groups → g < O.count → r ≡ stands g (ring O x)

-- the least group from `from` on that holds x, else count
pub record NextGroup (x from count n k : ℕ) (verts groups : List ℕ) (r : ℕ) : Type 0 where
  pub is : (O : Opening) → Ringed k O n verts groups → O.count ≡ count → r ≡ head_or count (ring_from O from x)
  pub within : r ≤ count
  pub onward : from ≤ count → from ≤ r

-- does some part hold x, whatever the groups
pub record InRing (x n k : ℕ) (verts : List ℕ) (r : Bool) : Type 0 where
  pub is : (O : Opening) (groups : List ℕ) → Ringed k O n verts groups → r ≡ not (empty (ring O x))

-- does a group hold both x and y
pub record Meets (x y n k : ℕ) (verts groups : List ℕ) (r : Bool) : Type 0 where
  pub is : (O : Opening) → Ringed k O n verts groups → r ≡ any (λ g. stands g (ring O y)) (ring O x)

-- are x and y neighbours of v with no common group
pub record Parted (x y n k : ℕ) (verts groups : List ℕ) (r : Bool) : Type 0 where
  pub is : (O : Opening) → Ringed k O n verts groups → r ≡ parted O x y

-- the groups alone of the n parts of a fan
pub record Grouped (O : Opening) (n : ℕ) (groups : List ℕ) : Type 0 where
  pub size : length O.fan ≡ n
  pub group_is : (i : ℕ) → i < n → (part_at O i).group ≡ get_or groups i 0

-- the weight of group g
pub record WeightIs (g n : ℕ) (groups : List ℕ) (measures : List Float) (r : Float) : Type 0 where
  pub is : (O : Opening) → Grouped O n groups → Weighted O n measures → r ≡ weight_of O.fan g

-- the weights of all groups, added
pub record TotalIs (n count : ℕ) (groups : List ℕ) (measures : List Float) (r : Float) : Type 0 where
  pub is : (O : Opening) → Grouped O n groups → Weighted O n measures → O.count ≡ count → r ≡ total_of O

-- ---- directions

-- how well d lies in the direction dir
unfoldable pub score_by : Point → Point → Float
score_by d dir = over (dot_of d dir) (max_of (times (length_of d) (length_of dir)) small)

-- the best score so far as the model has it
abbrev pub best_is : BestCase → Best
best_is b = record { score = b.score; group = b.group }

-- the place of v is known, and the corners of a row rest in the block
pub record RowRoom (v : ℕ) (home : Point) (row : List ℕ) (points : List Float) : Type 0 where
  pub home_is : home ≡ rest_in points v
  pub corners_in : (j : ℕ) → j < length row → get_or row j 0 < length points / point_columns

-- the best score after the corners of one part of group g
pub record BestIn (b : BestCase) (dir : Point) (g v : ℕ) (row : List ℕ) (points : List Float) (r : BestCase) : Type 0 where
  pub is : (M : Mesh) (p : ℕ) → RestsIn M p points → v < p → ((j : ℕ) → j < length row → get_or row j 0 < p)
      → best_is r ≡ fold (λ (c : Best) w. better c (score_of M v dir w) g) (best_is b) (besides v row)

-- v and the corners of all parts rest in the block
pub record FanRoom (v : ℕ) (home : Point) (n k : ℕ) (verts groups : List ℕ) (points : List Float) : Type 0 where
  pub room : RingRoom n k (length verts) (length groups)
  pub home_is : home ≡ rest_in points v
  pub corners_in : CornersBelow (length points / point_columns) n k verts

-- the best score after all parts
pub record FanBest (b : BestCase) (dir : Point) (v n k : ℕ) (verts groups : List ℕ) (points : List Float) (r : BestCase) : Type 0 where
  pub is : (O : Opening) (M : Mesh) (p : ℕ) → Ringed k O n verts groups → RestsIn M p points → v < p → CornersBelow p n k verts
      → best_is r ≡ fold (scored M v dir) (best_is b) O.fan

-- x, v and the corners of all parts rest in the block
pub record TowardRoom (x v n k : ℕ) (verts groups : List ℕ) (points : List Float) : Type 0 where
  pub room : RingRoom n k (length verts) (length groups)
  pub x_in : x < length points / point_columns
  pub v_in : v < length points / point_columns
  pub corners_in : CornersBelow (length points / point_columns) n k verts

-- the group that points best to x
pub record TowardIs (x v n k : ℕ) (verts groups : List ℕ) (points : List Float) (r : ℕ) : Type 0 where
  pub is : (O : Opening) (M : Mesh) (p : ℕ) → Ringed k O n verts groups → O.v ≡ v → RestsIn M p points → p ≤ length points / point_columns → x < p → v < p → CornersBelow p n k verts
      → r ≡ toward M O x

-- the number that stands for v in group g, of so many groups: v, or one of the copies behind the particles that were there before
pub record CopyIs (v before count g r : ℕ) : Type 0 where
  pub is : (g ≡ 0) ⊎ (g < count) → r ≡ copy_for_of v before g
  pub among : (r ≡ v) ⊎ ((before ≤ r) × (r + 1 < before + count))
