-- The tables of a fan that is to be split: its elements' numbers, corners and measures, and a group for each. Only contracts between workers need this file. Definitions only.
use Rattle.std.specs.Prelude.{ℕ, ◌*◌, ◌/◌, ◌<◌, ◌≤◌, ◌≡◌, List, length, get_or, take, Float}
use Rattle.model.specs.Mesh.{Mesh}
use Rattle.fan.specs.Fan.{fan}
use Rattle.fan.specs.Groups.{groups_of, count_of}
use Rattle.model.specs.Elements.{Kind, Triangles, Straps, corners_per_of, facet_others_of, fan_of}
use Rattle.model.specs.Split.{Opening}
use Rattle.mesh.specs.At.{triangles_at, edges_at}
use Rattle.mesh.specs.Widths.{corner_columns, end_columns, length_columns, volume_columns}
use Rattle.mesh.specs.Limits.{triangle_limit, edge_limit}
use Rattle.elements.specs.Table.{Tabled}
use Rattle.split_plan.specs.Opened.{opening_by, Ringed, Weighted, Numbered, RingRoom, CornersBelow}

-- the fan of v in M stands in the tables, and each of its elements has a group below count
pub record FanGrouped (K : Kind) (M : Mesh) (v n count : ℕ) (numbers verts : List ℕ) (measures : List Float) (groups : List ℕ) : Type 0 where
  pub here : v < length M.particles
  pub two : 2 ≤ count
  pub tabled : Tabled (corners_per_of K) (fan_of K M v) n numbers verts measures
  pub few : n ≤ 2048
  pub numbers_long : n ≤ length numbers
  pub verts_long : n * corners_per_of K ≤ length verts
  pub measures_long : n ≤ length measures
  pub groups_long : n ≤ length groups
  pub below : (i : ℕ) → i < n → get_or groups i 0 < count

-- the split that the tables tell of
abbrev pub opened_by : Kind → Mesh → ℕ → ℕ → ℕ → List ℕ → Opening
opened_by K M v n count groups = opening_by v (length M.particles) (fan_of K M v) (take n groups) count

-- the tables hold a split O at v, with so many particles before it, of so many groups
pub record Opens (K : Kind) (O : Opening) (v before n count : ℕ) (numbers verts : List ℕ) (measures : List Float) (groups : List ℕ) : Type 0 where
  pub at : O.v ≡ v
  pub before_is : O.before ≡ before
  pub count_is : O.count ≡ count
  pub ringed : Ringed (corners_per_of K) O n verts groups
  pub weighted : Weighted O n measures
  pub numbered : Numbered O n numbers

-- the tables fit a mesh of `before` particles, t triangles and e edges, whatever split they hold
pub record TablesFit (K : Kind) (before t e v n count : ℕ) (numbers verts : List ℕ) (measures : List Float) (groups : List ℕ) : Type 0 where
  pub here : v < before
  pub two : 2 ≤ count
  pub ring : RingRoom n (corners_per_of K) (length verts) (length groups)
  pub numbers_long : n ≤ length numbers
  pub measures_long : n ≤ length measures
  pub rising : (i j : ℕ) → i < j → j < n → get_or numbers i 0 < get_or numbers j 0
  pub in_triangles : K ≡ Triangles → (i : ℕ) → i < n → get_or numbers i 0 < t
  pub in_edges : K ≡ Straps → (i : ℕ) → i < n → get_or numbers i 0 < e
  pub below : (i : ℕ) → i < n → get_or groups i 0 < count
  pub corners_in : CornersBelow before n (corners_per_of K) verts

-- the fan of v in M stands in the tables, and each of its elements has a side, 0 or 1
pub record FanSided (K : Kind) (M : Mesh) (v n : ℕ) (numbers verts : List ℕ) (measures : List Float) (sides : List ℕ) : Type 0 where
  pub here : v < length M.particles
  pub tabled : Tabled (corners_per_of K) (fan_of K M v) n numbers verts measures
  pub few : n ≤ 2048
  pub numbers_long : n ≤ length numbers
  pub verts_long : n * corners_per_of K ≤ length verts
  pub measures_long : n ≤ length measures
  pub sides_long : n ≤ length sides
  pub two : (i : ℕ) → i < n → get_or sides i 0 < 2

-- what is asked of the blocks that a fan is read from
pub record FanLent (t e lc lv le ll : ℕ) : Type 0 where
  pub few : (t ≤ triangle_limit) × (e ≤ edge_limit)
  pub corners : t ≤ lc / corner_columns
  pub volumes : t ≤ lv / volume_columns
  pub ends : e ≤ le / end_columns
  pub lengths : e ≤ ll / length_columns

-- the fan of v in any mesh of these triangles and edges stands in the tables
pub record FanRead (K : Kind) (v t e : ℕ) (corners : List ℕ) (volumes : List Float) (ends : List ℕ) (lengths : List Float) (n : ℕ) (numbers verts : List ℕ) (measures : List Float) : Type 0 where
  pub tabled : (M : Mesh) → M.triangles ≡ triangles_at t corners volumes → M.edges ≡ edges_at e ends lengths → Tabled (corners_per_of K) (fan_of K M v) n numbers verts measures
  pub few : n ≤ 2048
  pub narrow : n * corners_per_of K ≤ 4096

-- n is the number of the fan's elements in any mesh of these triangles and edges, and they stand in tables that have room for them all
pub record FanTables (K : Kind) (v t e : ℕ) (corners : List ℕ) (volumes : List Float) (ends : List ℕ) (lengths : List Float) (n : ℕ) (numbers verts : List ℕ) (measures : List Float) : Type 0 where
  pub count : (M : Mesh) → M.triangles ≡ triangles_at t corners volumes → M.edges ≡ edges_at e ends lengths → n ≡ length (fan_of K M v)
  pub few : n ≤ 2048
  pub narrow : n * corners_per_of K ≤ 4096
  pub read : n ≤ length numbers → n * corners_per_of K ≤ length verts → n ≤ length measures → FanRead K v t e corners volumes ends lengths n numbers verts measures

-- what is asked where a fan of n elements is grouped by sides
pub record SidesLent (n k lk ls lg : ℕ) (sides : List ℕ) : Type 0 where
  pub few : n ≤ 2048
  pub verts : n * k ≤ lk
  pub long : n ≤ ls
  pub groups : n ≤ lg
  pub two : (i : ℕ) → i < n → get_or sides i 0 < 2

-- the groups of the fan whose corners stand in verts, and their count
pub record GroupsFound (K : Kind) (v n : ℕ) (verts sides groups : List ℕ) (count : ℕ) : Type 0 where
  pub groups_are : take n groups ≡ groups_of (fan (take (n * corners_per_of K) verts) (corners_per_of K) v (facet_others_of K) (take n sides))
  pub count_is : count ≡ count_of (fan (take (n * corners_per_of K) verts) (corners_per_of K) v (facet_others_of K) (take n sides))
  pub below : (i : ℕ) → i < n → get_or groups i 0 < count

-- v is there, and each element of its fan has a side, 0 or 1
pub record SidesGiven (K : Kind) (M : Mesh) (v : ℕ) (sides : List ℕ) : Type 0 where
  pub here : v < length M.particles
  pub every : length sides ≡ length (fan_of K M v)
  pub two : (i : ℕ) → i < length sides → get_or sides i 0 < 2
