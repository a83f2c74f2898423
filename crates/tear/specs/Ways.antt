-- Ways to open an edge, read off the tables of a fan. Only contracts between workers need this file. Definitions only.
use Rattle.std.specs.Prelude.{ℕ, ◌*◌, ◌/◌, ◌<◌, ◌≤◌, ◌≡◌, Bool, ◌&&◌, List, map, length, get_or, take, Float}
use Rattle.std.specs.Float.{nan}
use Rattle.std.specs.Float.Ieee.{lt, ne}
use Rattle.lists.specs.Lists.{pick, stands, sift}
use Rattle.float.specs.Numbers.{over, zero32, count32}
use Rattle.blade.specs.declared.Point.{Point}
use Rattle.blade.specs.Points.{minus_of, dot_of, sum_of}
use Rattle.columns.specs.Block.{cell}
use Rattle.model.specs.Mesh.{Mesh}
use Rattle.model.specs.Elements.{Kind, Triangles, Straps, Element, sum}
use Rattle.model.specs.Crack.{load_at, beyond, far_side}
use Rattle.mesh.specs.At.{edges_at}
use Rattle.mesh.specs.Widths.{point_columns, length_columns}
use Rattle.elements.specs.Table.{Cornered}
use Rattle.split_plan.specs.Opened.{rest_in, RestsIn, CornersBelow}

-- ---- sides

-- the corners of a row rest in the block
pub record RowIn (row : List ℕ) (lp : ℕ) : Type 0 where
  pub in_block : (j : ℕ) → j < length row → get_or row j 0 < lp / point_columns

-- the offsets of a row's corners from home, added
unfoldable pub offsets_by : Point → List ℕ → List Float → Point
offsets_by home row points = sum_of (map (λ x. minus_of (rest_in points x) home) row)

-- the side of a row's element
unfoldable pub side_by : Point → Point → List ℕ → List Float → ℕ
side_by home dir row points = pick (lt zero32 (dot_of (offsets_by home row points) dir)) 1 0

-- the table has n rows of k corners, which rest in the block as v and w do, and a side has room for each
pub record SidesRoom (v w n k : ℕ) (verts : List ℕ) (lp ls : ℕ) : Type 0 where
  pub v_in : v < lp / point_columns
  pub w_in : w < lp / point_columns
  pub verts_long : n * k ≤ length verts
  pub sides_long : n ≤ ls
  pub corners_in : CornersBelow (lp / point_columns) n k verts

-- the first n sides are those of the elements in the table, in any mesh that rests in the block; and they are 0 or 1
pub record FarSides (v w n k : ℕ) (verts : List ℕ) (points : List Float) (sides : List ℕ) : Type 0 where
  pub are : (M : Mesh) (es : List Element) (p : ℕ) → Cornered k es n verts → RestsIn M p points → v < p → w < p → CornersBelow p n k verts → take n sides ≡ map (far_side M v w) es
  pub two : (i : ℕ) → i < n → get_or sides i 0 < 2

-- ---- loads

-- element number i has a load in the block of its kind
pub record LoadHas (K : Kind) (i lo ll : ℕ) : Type 0 where
  pub triangle : K ≡ Triangles → i < lo
  pub strap : K ≡ Straps → i < ll / length_columns

-- the loads of the triangles as they were read, and the edges of a mesh
pub record LoadsIn (K : Kind) (ls : List Float) (M : Mesh) (t e : ℕ) (loads : List Float) (ends : List ℕ) (lengths : List Float) : Type 0 where
  pub loads_are : K ≡ Triangles → take t loads ≡ ls
  pub edges_are : M.edges ≡ edges_at e ends lengths

-- element number i is one of t triangles or of e edges
pub record NumberIn (K : Kind) (t e i : ℕ) : Type 0 where
  pub triangle : K ≡ Triangles → i < t
  pub strap : K ≡ Straps → i < e

-- r is the load of element number i
pub record LoadIs (K : Kind) (i : ℕ) (loads lengths : List Float) (r : Float) : Type 0 where
  pub is : (ls : List Float) (M : Mesh) (t e : ℕ) (ends : List ℕ) → LoadsIn K ls M t e loads ends lengths → NumberIn K t e i → r ≡ load_at K ls M i

-- the tables have n numbers and sides, and each number has a load
pub record MeanRoom (K : Kind) (n : ℕ) (numbers : List ℕ) (ls lo ll : ℕ) : Type 0 where
  pub few : n ≤ 2048
  pub numbers_long : n ≤ length numbers
  pub sides_long : n ≤ ls
  pub has : (i : ℕ) → i < n → LoadHas K (get_or numbers i 0) lo ll

-- the mean load of the elements of a list beyond the line through v across the edge to w
unfoldable pub mean_of : Kind → List Float → Mesh → ℕ → ℕ → List Element → Float
mean_of K ls M v w es = over (sum (map (λ (e : Element). load_at K ls M e.number) (sift (beyond M v w) es))) (count32 (length (sift (beyond M v w) es)))

-- elements of a mesh with these numbers, whose sides across the edge from v to w are these
pub record MeanIn (K : Kind) (ls : List Float) (M : Mesh) (t e : ℕ) (ends : List ℕ) (v w : ℕ) (es : List Element) (n : ℕ) (numbers sides : List ℕ) (loads lengths : List Float) : Type 0 where
  pub loads_in : LoadsIn K ls M t e loads ends lengths
  pub count : n ≡ length es
  pub numbers_are : take n numbers ≡ map (λ (x : Element). x.number) es
  pub sides_are : take n sides ≡ map (far_side M v w) es
  pub numbers_in : (i : ℕ) → i < n → NumberIn K t e (get_or numbers i 0)

-- r is the mean load of the elements with these numbers and sides
pub record MeanTold (K : Kind) (n : ℕ) (numbers sides : List ℕ) (loads lengths : List Float) (r : Float) : Type 0 where
  pub is :
      (ls : List Float) (M : Mesh) (t e : ℕ) (ends : List ℕ) (v w : ℕ) (es : List Element) → MeanIn K ls M t e ends v w es n numbers sides loads lengths → r ≡ mean_of K ls M v w es

-- ---- both sides

-- v is not pinned, and both sides stand in a list
unfoldable pub two_by : ℕ → List ℕ → List Float → Bool
two_by v sides points = ne (cell nan (length points / point_columns) points 5 v) zero32 && (stands 0 sides && stands 1 sides)
