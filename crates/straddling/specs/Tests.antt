-- What the tests of straddlers ask and give: helper records that only proofs and contracts between workers need. Definitions only.
use Rattle.std.specs.Prelude.{ℕ, ◌+◌, ◌*◌, ◌-◌, ◌/◌, ◌<◌, ◌≤◌, ◌≡◌, Bool, ◌&&◌, List, [], ◌∷◌, map, length, get_or, take, Float, eqb}
use Rattle.lists.specs.Lists.{stands, up_to, sift}
use Rattle.lists.specs.LeftOut.{Rising}
use Rattle.columns.specs.Block.{cell}
use Rattle.model.specs.Mesh.{Mesh}
use Rattle.model.specs.Elements.{Kind, held, corners_per_of}
use Rattle.model.specs.Split.{Opening, straddles}
use Rattle.mesh.specs.At.{edges_at, triangles_at}
use Rattle.mesh.specs.Workers.{row_at}
use Rattle.mesh.specs.Widths.{corner_columns, end_columns}
use Rattle.mesh.specs.Limits.{particle_limit, triangle_limit}
use Rattle.split_plan.specs.Opened.{Ringed, RingRoom}
use Rattle.work.specs.Places.{EndsIn}
use Rattle.links.specs.Linked.{TrianglesLinked, Linked, EdgesLinked}

-- v and its copies: `copies` of an opening at v, with so many particles before it, of so many groups
abbrev pub copies_by : ℕ → ℕ → ℕ → List ℕ
copies_by v before count = v ∷ map (λ g. before + g) (up_to (count - 1))

-- both x and y stand in the list
abbrev pub both_in : ℕ → ℕ → List ℕ → Bool
both_in x y l = stands x l && stands y l

-- triangle i of a block holds both x and y
abbrev pub triangle_holds : ℕ → ℕ → List ℕ → ℕ → Bool
triangle_holds x y corners i = both_in x y (cell 0 (length corners / corner_columns) corners 0 i ∷ cell 0 (length corners / corner_columns) corners 1 i ∷ cell 0 (length corners / corner_columns) corners 2 i ∷ [])

-- edge i of a block is structural and holds both
abbrev pub strap_holds_of : ℕ → ℕ → List ℕ → ℕ → Bool
strap_holds_of x y ends i = eqb (cell 0 (length ends / end_columns) ends 2 i) 1 && both_in x y (cell 0 (length ends / end_columns) ends 0 i ∷ cell 0 (length ends / end_columns) ends 1 i ∷ [])

-- the table of links is that of the first t triangles of the block, and x has a head in it
pub record WalkRoom (x t : ℕ) (corners links : List ℕ) : Type 0 where
  pub here : x < particle_limit
  pub few : t ≤ triangle_limit
  pub rows : t ≤ length corners / corner_columns
  pub long : 4096 ≤ length links
  pub linked : TrianglesLinked t corners links

-- the table is that of the first e edges of the block, and x has a head in it
pub record EdgeWalkRoom (x e : ℕ) (ends table : List ℕ) : Type 0 where
  pub here : x < particle_limit
  pub linked : EdgesLinked e ends table

-- what a test of two particles asks: rows within the blocks, the table of links of at most 1,024 triangles, that of the edges, and a head in both for the first
pub record HeldRoom (K : Kind) (x t e : ℕ) (corners ends links table : List ℕ) : Type 0 where
  pub here : x < particle_limit
  pub few : t ≤ triangle_limit
  pub rows : t ≤ length corners / corner_columns
  pub linked : Linked K t corners links
  pub edges : EdgesLinked e ends table

-- r tells whether an element of a mesh with the first t triangles and the first e edges of the blocks holds both x and y
pub record HeldTold (K : Kind) (x y t e : ℕ) (corners ends : List ℕ) (r : Bool) : Type 0 where
  pub is : (M : Mesh) (volumes lengths : List Float) → M.triangles ≡ triangles_at t corners volumes → M.edges ≡ edges_at e ends lengths → r ≡ held K M x y

-- an opening in tables, and a mesh with the first t triangles and the first e edges of the blocks
pub record Straddling (K : Kind) (O : Opening) (M : Mesh) (v before n count t e : ℕ) (verts groups corners : List ℕ) (volumes : List Float) (ends : List ℕ) (lengths : List Float) : Type 0 where
  pub at : O.v ≡ v
  pub before_is : O.before ≡ before
  pub count_is : O.count ≡ count
  pub ringed : Ringed (corners_per_of K) O n verts groups
  pub triangles_are : M.triangles ≡ triangles_at t corners volumes
  pub edges_are : M.edges ≡ edges_at e ends lengths

-- what a straddler test asks: tables that fit, at most 1,024 triangles, and rows within the blocks
pub record StraddleRoom (K : Kind) (n t e lv lg lc le : ℕ) : Type 0 where
  pub ring : RingRoom n (corners_per_of K) lv lg
  pub few : t ≤ triangle_limit
  pub corners : t ≤ lc / corner_columns
  pub ends : e ≤ le / end_columns

-- each of the first m corners of a fan that has a place in the table is marked there
pub record NearMarked (m : ℕ) (verts near : List ℕ) : Type 0 where
  pub marked : (j : ℕ) → j < m → get_or verts j 0 < length near → get_or near (get_or verts j 0) 0 ≡ 1

-- what the test of an edge by a table of the near asks besides: the corners of the fan are marked, and the ends of the edges have places
pub record NearRoom (K : Kind) (n e : ℕ) (verts ends near : List ℕ) : Type 0 where
  pub corners_near : NearMarked (n * corners_per_of K) verts near
  pub ends_in : EndsIn particle_limit e ends
  pub places : 1024 ≤ length near

-- r tells whether edge i straddles
pub record StraddleTold (K : Kind) (i v before n count t e : ℕ) (verts groups corners ends : List ℕ) (r : Bool) : Type 0 where
  pub is :
      (O : Opening) (M : Mesh) (volumes lengths : List Float) → Straddling K O M v before n count t e verts groups corners volumes ends lengths
      → r ≡ straddles K M O (row_at ends lengths i)

-- the first r places of the list are the straddlers among the first e edges, in their order; whatever opening there is, the list rises and names edges
pub record StraddlersListed (K : Kind) (v before n count t e : ℕ) (verts groups corners ends list' : List ℕ) (r : ℕ) : Type 0 where
  pub few : r ≤ e
  pub rising : Rising list' r e
  pub listed :
      (O : Opening) (M : Mesh) (volumes lengths : List Float) → Straddling K O M v before n count t e verts groups corners volumes ends lengths
      → take r list' ≡ sift (λ i. straddles K M O (row_at ends lengths i)) (up_to e)
