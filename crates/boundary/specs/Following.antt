-- The boundary in a split: each entry at v follows its group. Only contracts between workers need this file. Definitions only.
use Rattle.std.specs.Prelude.{ℕ, ◌+◌, ◌*◌, ◌/◌, ◌<◌, ◌≤◌, ◌≡◌, Bool, true, false, ◌&&◌, ◌⊎◌, List, [], ◌∷◌, map, length, get_or, take, drop, Float}
use Rattle.lists.specs.Lists.{stands}
use Rattle.columns.specs.Block.{cell}
use Rattle.model.specs.Mesh.{Mesh}
use Rattle.model.specs.Split.{Opening, side_group, turned, followed}
use Rattle.mesh.specs.At.{side_row, boundary_at}
use Rattle.mesh.specs.Widths.{point_columns, side_columns}
use Rattle.mesh.specs.Limits.{particle_limit}
use Rattle.links.specs.Links.{holds}
use Rattle.links.specs.Linked.{SidesLinked}
use Rattle.split_plan.specs.Opened.{Ringed, RingRoom, RestsIn, CornersBelow, OpeningIn}

-- the boundary entries at v follow
pub record SidesFollowed (v before k n count p b : ℕ) (verts groups : List ℕ) (points : List Float) (outline outline' : List ℕ) : Type 0 where
  pub sides :
      (O : Opening) (M : Mesh) → OpeningIn O M v before k n count p verts groups points
      → boundary_at b outline' ≡ map (followed M O) (boundary_at b outline)

-- does row i of a table, of k corners, hold both x and y
abbrev pub row_holds : ℕ → ℕ → ℕ → List ℕ → ℕ → Bool
row_holds x y k verts i = stands x (take k (drop (i * k) verts)) && stands y (take k (drop (i * k) verts))

-- r is the first of n rows that holds both x and y, or n where none does
pub record FirstHolder (x y n k : ℕ) (verts : List ℕ) (r : ℕ) : Type 0 where
  pub within : r ≤ n
  pub earlier : (j : ℕ) → j < r → row_holds x y k verts j ≡ false
  pub here : r < n → row_holds x y k verts r ≡ true

-- x, y, v and the corners of all parts are among the first p particles, which rest in the block
pub record InReach (p x y v n k : ℕ) (verts : List ℕ) (points : List Float) : Type 0 where
  pub rests_in : p ≤ length points / point_columns
  pub x_in : x < p
  pub y_in : y < p
  pub v_in : v < p
  pub corners_in : CornersBelow p n k verts

-- the tables of the parts fit, and x, y, v and all corners rest in the block
pub record SideRoom (x y v n k : ℕ) (verts groups : List ℕ) (points : List Float) : Type 0 where
  pub room : RingRoom n k (length verts) (length groups)
  pub reach : InReach (length points / point_columns) x y v n k verts points

-- the group that the boundary entry (x, y) follows, which is no larger than the groups
pub record SideGroupIs (x y v n k : ℕ) (verts groups : List ℕ) (points : List Float) (r : ℕ) : Type 0 where
  pub is : (O : Opening) (M : Mesh) (p : ℕ) → Ringed k O n verts groups → O.v ≡ v → RestsIn M p points → InReach p x y v n k verts points → r ≡ side_group M O (record { corners = x ∷ y ∷ [] })
  pub small : (bound : ℕ) → ((i : ℕ) → i < n → get_or groups i 0 ≤ bound) → r ≤ bound

-- the copies of all groups are among 1,024 particles
pub record CopiesSmall (before n : ℕ) (groups : List ℕ) : Type 0 where
  pub some : 0 < before
  pub low : before ≤ particle_limit
  pub small : (i : ℕ) → i < n → before + get_or groups i 0 ≤ particle_limit

-- r for v makes of the boundary entry (x, y) what it becomes; it is v or a copy
pub record SideCopyIs (x y v before k n : ℕ) (verts groups : List ℕ) (points : List Float) (r : ℕ) : Type 0 where
  pub is : (O : Opening) (M : Mesh) (count p : ℕ) → OpeningIn O M v before k n count p verts groups points → InReach p x y v n k verts points
      → turned v r (record { corners = x ∷ y ∷ [] }) ≡ followed M O (record { corners = x ∷ y ∷ [] })
  pub among : (r ≡ v) ⊎ ((before ≤ r) × (r < particle_limit))

-- entry i follows, and the others are as they were
pub record EntryFollowed (i v before k n : ℕ) (verts groups : List ℕ) (points : List Float) (outline outline' : List ℕ) : Type 0 where
  pub here : (O : Opening) (M : Mesh) (count p : ℕ) → OpeningIn O M v before k n count p verts groups points
      → InReach p (get_or outline i 0) (get_or outline (length outline / side_columns + i) 0) v n k verts points
      → side_row (length outline / side_columns) outline' i ≡ followed M O (side_row (length outline / side_columns) outline i)
  pub others : (j : ℕ) → j < length outline / side_columns → (j ≡ i → ⊥) → side_row (length outline / side_columns) outline' j ≡ side_row (length outline / side_columns) outline j

-- what entry i of b asks, one at v: the table is that of the b entries, and its ends are particles that were there before
pub record EntryRoom (i v before k n b : ℕ) (verts groups : List ℕ) (points : List Float) (outline table : List ℕ) : Type 0 where
  pub here : i < b
  pub linked : SidesLinked b outline table
  pub holding : holds 2 (cell 0 (length outline / side_columns) outline) v i ≡ true
  pub below : (c : ℕ) → c < 2 → cell 0 (length outline / side_columns) outline c i < before
  pub side : SideRoom (get_or outline i 0) (get_or outline (length outline / side_columns + i) 0) v n k verts groups points
  pub copies : CopiesSmall before n groups

-- the tables of the parts fit, the ends of b entries are among the first p particles, as are v and all corners, and each copy, which comes behind them, has a head
pub record SidesRoom (v before k n count p b : ℕ) (verts groups : List ℕ) (points : List Float) (outline : List ℕ) : Type 0 where
  pub room : RingRoom n k (length verts) (length groups)
  pub entries : b ≤ length outline / side_columns
  pub rests_in : p ≤ length points / point_columns
  pub v_in : v < p
  pub corners_in : CornersBelow p n k verts
  pub a_in : (j : ℕ) → j < b → cell 0 (length outline / side_columns) outline 0 j < p
  pub b_in : (j : ℕ) → j < b → cell 0 (length outline / side_columns) outline 1 j < p
  pub some : 0 < before
  pub behind : p ≤ before
  pub most : before ≤ particle_limit
  pub small : before + count ≤ 1025
  pub below : (i : ℕ) → i < n → get_or groups i 0 < count
