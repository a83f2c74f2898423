-- Parts 4 to 6 of a split and its log, worker by worker. Only contracts between workers need this file. Definitions only.
use Rattle.std.specs.Prelude.{ℕ, ◌+◌, ◌-◌, ◌/◌, ◌<◌, ◌≤◌, ◌≡◌, not, List, map, ◌++◌, length, get_or, take, Float, Ok, Err, Option}
use Rattle.lists.specs.Lists.{sift, up_to}
use Rattle.model.specs.Mesh.{Edge, Mesh}
use Rattle.model.specs.Elements.{Kind, Triangles, corners_per_of}
use Rattle.model.specs.Split.{Opening, straddles, followed, crack_facets}
use Rattle.model.specs.Refusals.{entry_refusal}
use Rattle.mesh.specs.At.{triangles_at, edges_at, boundary_at}
use Rattle.mesh.specs.Log.{World, Words, words_of, log_at}
use Rattle.mesh.specs.declared.Counts.{Counts}
use Rattle.mesh.specs.declared.Rooms.{Rooms}
use Rattle.mesh.specs.Widths.{point_columns, corner_columns, length_columns, side_columns, entry_words}
use Rattle.mesh.specs.Limits.{particle_limit, edge_limit}
use Rattle.split_plan.specs.Opened.{Ringed, Numbered, RingRoom, RestsIn, CornersBelow}
use Rattle.work.specs.Rows.{GrownTo}
use Rattle.straddling.specs.Tests.{Straddling, StraddleRoom}
use Rattle.work.specs.Places.{EndsIn, SidesIn}
use Rattle.edge_drops.specs.Parted.{listed, edges_parted, Listing}
use Rattle.split.specs.Steps.{logged_of, SettlingTold}
use Rattle.work.specs.Working.{SettleRoom}
use Rattle.work.specs.Removal.{gone_words, ListNoteRoom}
use Rattle.work.specs.Ran.{Ran}
use Rattle.mesh.specs.Refused.{number_of}

-- ---- 5 and 6: boundary and crack facets

-- a split in tables, and a mesh with the triangles of the block, whose first particles rest as the points say
pub record BoundaryIn (K : Kind) (O : Opening) (M : Mesh) (t : ℕ) (volumes : List Float) (v before n count : ℕ) (numbers verts groups : List ℕ) (points : List Float) (corners : List ℕ) : Type 0 where
  pub at : O.v ≡ v
  pub before_is : O.before ≡ before
  pub count_is : O.count ≡ count
  pub ringed : Ringed (corners_per_of K) O n verts groups
  pub numbered : Numbered O n numbers
  pub rests : RestsIn M before points
  pub triangles_are : M.triangles ≡ triangles_at t corners volumes
  pub numbers_in : K ≡ Triangles → (i : ℕ) → i < n → get_or numbers i 0 < t

-- what the facets ask: tables that fit, triangles that the corners hold, and b entries within the room
pub record FacetsAsked (K : Kind) (before n count b room : ℕ) (numbers : List ℕ) (lv lg lc lo : ℕ) : Type 0 where
  pub ring : RingRoom n (corners_per_of K) lv lg
  pub small : before + count ≤ 1025
  pub numbers_long : n ≤ length numbers
  pub in_corners : K ≡ Triangles → (i : ℕ) → i < n → get_or numbers i 0 < lc / corner_columns
  pub rows : b ≤ room
  pub columns : room ≤ lo / side_columns

-- the crack facets of a split stand behind the b entries
pub record FacetsTold (K : Kind) (v before n count b room : ℕ) (numbers verts groups : List ℕ) (corners outline outline' : List ℕ) (r : Option ℕ) : Type 0 where
  pub facets :
      (O : Opening) (M : Mesh) (t : ℕ) (volumes points : List Float) → BoundaryIn K O M t volumes v before n count numbers verts groups points corners
      → GrownTo r room (boundary_at b outline ++ crack_facets K M O) (λ q. boundary_at q outline')

-- what the boundary asks besides: its ends, v and the corners of the fan are among the particles before the copies
pub record BoundaryAsked (K : Kind) (v before n count b room : ℕ) (numbers verts groups : List ℕ) (lp lc : ℕ) (outline : List ℕ) : Type 0 where
  pub facets : FacetsAsked K before n count b room numbers (length verts) (length groups) lc (length outline)
  pub here : v < before
  pub most : before ≤ particle_limit
  pub rests_in : before ≤ lp / point_columns
  pub below : (i : ℕ) → i < n → get_or groups i 0 < count
  pub corners_in : CornersBelow before n (corners_per_of K) verts
  pub sides : SidesIn before b outline

-- the b entries follow their groups, and the crack facets stand behind them
pub record BoundaryTold (K : Kind) (v before n count b room : ℕ) (numbers verts groups : List ℕ) (points : List Float) (corners outline outline' : List ℕ) (r : Option ℕ) : Type 0 where
  pub sides :
      (O : Opening) (M : Mesh) (t : ℕ) (volumes : List Float) → BoundaryIn K O M t volumes v before n count numbers verts groups points corners
      → GrownTo r room (map (followed M O) (boundary_at b outline) ++ crack_facets K M O) (λ q. boundary_at q outline')

-- ---- the log

-- the words of a copy of v
abbrev pub copy_words : ℕ → ℕ → ℕ → Words
copy_words v before g = record { kind = 1; a = before + g; b = v; p = 0; q = 0; t = 0 }

-- m copies are noted behind the entries
pub record CopiesNoted (v before m at : ℕ) (log log' : List ℕ) : Type 0 where
  pub noted : log_at (at + m) log' ≡ log_at at log ++ map (copy_words v before) (up_to m)

-- what noting m copies and then s listed edges asks
pub record SplitAsked (v before m at s : ℕ) (list ends : List ℕ) (lg : ℕ) : Type 0 where
  pub here : v < before
  pub small : before + m ≤ 65536
  pub listed : ListNoteRoom list s (at + m) ends lg

-- the copies and then the listed edges are noted, and the log has r entries
pub record SplitNoted (v before m at s : ℕ) (list ends log log' : List ℕ) (r : ℕ) : Type 0 where
  pub count : r ≡ at + m + s
  pub entries : log_at r log' ≡ log_at at log ++ (map (copy_words v before) (up_to m) ++ map (gone_words ends) (take s list))

-- ---- 4: straddlers, with the log of the split

-- what listing the straddlers asks: tables that fit, few edges, and a log within its room
pub record PartAsked (K : Kind) (L : Rooms) (k : Counts) (v before n count extra lv lg lc : ℕ) (ends : List ℕ) (llog : ℕ) : Type 0 where
  pub here : v < before
  pub straddle : StraddleRoom K n k.triangles k.edges lv lg lc (length ends)
  pub ends_in : EndsIn particle_limit k.edges ends
  pub few_edges : k.edges ≤ edge_limit
  pub some : 1 ≤ count
  pub small : before + count ≤ 65536
  pub one_extra : extra ≤ 1
  pub log_in : k.log ≤ L.log
  pub log_long : L.log ≤ llog / entry_words

-- the straddlers of a split of M are listed, and the split is logged, with room for `extra` entries
pub record EdgesListed (K : Kind) (O : Opening) (M : Mesh) (L : Rooms) (k q : Counts) (extra rows : ℕ) (ends : List ℕ) (lengths : List Float) (list' log log' : List ℕ) : Type 0 where
  pub particles : q.particles ≡ k.particles
  pub triangles : q.triangles ≡ k.triangles
  pub boundary : q.boundary ≡ rows
  pub few_edges : q.edges ≤ k.edges
  pub count : q.log ≡ k.log + length (logged_of K O M)
  pub fits : k.log + (length (logged_of K O M) + extra) ≤ L.log
  pub edges : edges_parted q.edges ends lengths list' ≡ sift (λ (a : Edge). not (straddles K M O a)) (edges_at k.edges ends lengths)
  pub entries : log_at q.log log' ≡ log_at k.log log ++ map words_of (logged_of K O M)

-- what was told of the straddlers: the log lacks room; or the new counts
abbrev pub PartedTo : Kind → Opening → Mesh → Rooms → Counts → ℕ → ℕ → List ℕ → List Float → List ℕ → List ℕ → List ℕ → Ran → Type 0
PartedTo K O M L k extra rows ends lengths list' log log' (Err c) = (number_of c ≡ entry_refusal) × (L.log < k.log + (length (logged_of K O M) + extra))
PartedTo K O M L k extra rows ends lengths list' log log' (Ok q) = EdgesListed K O M L k q extra rows ends lengths list' log log'

-- for every split that the tables hold
pub record PartedFor (K : Kind) (L : Rooms) (k : Counts) (v before n count extra rows : ℕ) (verts groups corners ends list' log log' : List ℕ) (r : Ran) : Type 0 where
  pub told :
      (O : Opening) (M : Mesh) (volumes lengths : List Float) → Straddling K O M v before n count k.triangles k.edges verts groups corners volumes ends lengths
      → PartedTo K O M L k extra rows ends lengths list' log log' r

-- the list is one of the edges of k, which are all in the block of le places still, whatever room the other block has for them
pub record RowsListed (k q : Counts) (rows le : ℕ) (list : List ℕ) : Type 0 where
  pub listing : (ll : ℕ) → k.edges ≤ ll / length_columns → Listing q.edges le ll list
  pub whole : q.edges + listed list ≡ k.edges
  pub triangles : q.triangles ≡ k.triangles
  pub boundary : q.boundary ≡ rows

-- behind a worker that came to r, where it is done
abbrev pub RowsAfter : Counts → ℕ → ℕ → List ℕ → Ran → Type 0
RowsAfter k rows le list (Err c) = Unit {0}
RowsAfter k rows le list (Ok q) = RowsListed k q rows le list

-- ---- the whole

-- what parts 4 to 6 ask: the copies are there, and the tables of the fan fit the mesh before them
pub record SettleAsked (K : Kind) (L : Rooms) (k : Counts) (v before n count extra : ℕ) (numbers verts groups : List ℕ) (lp lc lv : ℕ) (ends : List ℕ) (ll : ℕ) (outline : List ℕ) (lg : ℕ) : Type 0 where
  pub room : SettleRoom L k lc lv (length ends) ll (length outline) lg
  pub copied_all : k.particles ≡ before + count - 1
  pub points : k.particles ≤ lp / point_columns
  pub here : v < before
  pub two : 2 ≤ count
  pub ring : RingRoom n (corners_per_of K) (length verts) (length groups)
  pub numbers_long : n ≤ length numbers
  pub in_triangles : K ≡ Triangles → (i : ℕ) → i < n → get_or numbers i 0 < k.triangles
  pub below : (i : ℕ) → i < n → get_or groups i 0 < count
  pub corners_in : CornersBelow before n (corners_per_of K) verts
  pub ends_in : EndsIn particle_limit k.edges ends
  pub sides : SidesIn before k.boundary outline
  pub one_extra : extra ≤ 1

-- what was told after parts 4 to 6, whatever the measures of the fan are
pub record SettledFor (K : Kind) (L : Rooms) (extra v before n count : ℕ) (numbers verts groups : List ℕ) (W : List ℕ → World) (at : List ℕ → Counts → World) (r : Ran) : Type 0 where
  pub settling : (measures : List Float) → SettlingTold K L extra v before n count numbers verts measures groups W at r
