-- One torn edge cracked, over the blocks. Only contracts between workers need this file. Definitions only.
use Rattle.std.specs.Prelude.{ℕ, ◌<◌, ◌≡◌, Bool, true, false, ◌&&◌, List, [], ◌∷◌, map, length, take, Float, None, Some, Option as Opt}
use Rattle.std.proofs.Math.Option.{Option, none, some}
use Rattle.lists.specs.Lists.{find}
use Rattle.model.specs.Mesh.{Mesh}
use Rattle.model.specs.Elements.{Kind, Triangles, fan_of}
use Rattle.model.specs.Run.{Run, opened}
use Rattle.model.specs.Split.{opening_of, split_step}
use Rattle.model.specs.Pieces.{opens_without_confetti_of}
use Rattle.model.specs.Crack.{far_side, Way, two_sided_of, way_at, first_of, torn, crack_by, crack_pair, crack_edge}
use Rattle.links.specs.Linked.{MeshLinked}
use Rattle.mesh.specs.Log.{World}
use Rattle.mesh.specs.declared.Counts.{Counts}
use Rattle.mesh.specs.declared.Rooms.{Rooms}
use Rattle.work.specs.Working.{Works}
use Rattle.work.specs.Ran.{Ran}
use Rattle.split.specs.Tables.{opened_by}
use Rattle.split.specs.Linking.{LinkedAfter}
use Rattle.tear.specs.Tried.{OpensRoom}
use Rattle.tear.specs.Torn.{TearAsked}
use Rattle.tornedge.specs.Tried.{Tried}
use Rattle.mesh.specs.Blocks.{LentIndices}

-- ---- one way tried

-- the way at v, if there is one and it opens without confetti
unfoldable pub open_way : Kind → List Float → ℕ → Mesh → ℕ → ℕ → Option Way
open_way K ls min M v w = find (λ (p : Way). opens_without_confetti_of K M min p.opening) (way_at K ls M v w)

-- the side of each element of v's fan, across the edge to w
abbrev pub sides_across : Kind → Mesh → ℕ → ℕ → List ℕ
sides_across K M v w = map (far_side M v w) (fan_of K M v)

-- does the way at v open: v is free, both sides are there, and no group is confetti
abbrev pub opens_at : Kind → ℕ → Mesh → ℕ → ℕ → Bool
opens_at K min M v w = two_sided_of M v (sides_across K M v w) && opens_without_confetti_of K M min (opening_of K M v (sides_across K M v w))

-- what was told of v's fan: v is not free or a side is not there; or a table has the groups of all its elements, and v opens by them
abbrev pub Parted : Kind → ℕ → ℕ → Mesh → List ℕ → Opt (ℕ × ℕ) → Type 0
Parted K v w M groups None = two_sided_of M v (sides_across K M v w) ≡ false
Parted K v w M groups (Some (n, count)) = (two_sided_of M v (sides_across K M v w) ≡ true) × OpensRoom n (length (fan_of K M v)) (length groups) × (opened_by K M v n count groups ≡ opening_of K M v (sides_across K M v w))

-- v is split across (x, y), an edge whose other end is w, and the torn edge (a, b) is logged
abbrev pub opened_across : Kind → Mesh → ℕ → ℕ → ℕ × ℕ → ℕ × ℕ → Run → Run
opened_across K M v w ab xy = split_step (opened ab.0 ab.1 ∷ []) (torn (opening_of K M v (sides_across K M v w)) xy) K (opening_of K M v (sides_across K M v w))

-- v is there, an end of (x, y) whose other is w; (x, y) stands for the torn edge (a, b) of the input
pub record WayAsked (v w x y a b p : ℕ) : Type 0 where
  pub here : v < p
  pub ends : TearAsked v w x y a b p

-- what was told of the way at v, whatever the loads: it doesn't open, and the blocks hold what they held; or the edge was cracked by it
abbrev pub TriedTo : Kind → ℕ → ℕ → ℕ → ℕ × ℕ → ℕ × ℕ → Rooms → Counts → World → (Counts → World) → Tried → Type 0
TriedTo K min v w ab xy L k W at None = ((ls : List Float) → open_way K ls min W.mesh v w ≡ none) × (at k ≡ W)
TriedTo K min v w ab xy L k W at (Some r) = (ls : List Float) → (p : Way) × ((open_way K ls min W.mesh v w ≡ some p) × Works (crack_by K (some p) ab xy) L W at r)

-- behind a way that was tried: the tables are those of the blocks, as they were or as the split left them
abbrev pub LinkedTried : Kind → ℕ → ℕ → ℕ → List ℕ → List ℕ → List ℕ → List ℕ → Tried → Type 0
LinkedTried K t e b corners ends outline links None = MeshLinked K t e b corners ends outline links
LinkedTried K t e b corners ends outline links (Some r) = LinkedAfter K corners ends outline links r

-- ---- one edge

-- the way at v was tried, and then the way at w
pub record EndsTold (K : Kind) (min v w : ℕ) (ab xy : ℕ × ℕ) (L : Rooms) (W : World) (at : Counts → World) (r : Ran) : Type 0 where
  pub works : (ls : List Float) → Works (λ R. crack_by K (first_of (open_way K ls min R.mesh v w) (open_way K ls min R.mesh w v)) ab xy R) L W at r

-- the pair (x, y) for the torn edge (a, b) is cracked in whatever run the blocks hold, by the loads at the front of the table where the elements are t triangles
pub record PairTold (K : Kind) (min t : ℕ) (ab xy : ℕ × ℕ) (loads : List Float) (L : Rooms) (W : World) (at : Counts → World) (r : Ran) : Type 0 where
  pub works : (ls : List Float) → (K ≡ Triangles → take t loads ≡ ls) → Works (crack_pair K ls min ab (some xy)) L W at r

-- the torn edge that was (a, b) in the input is cracked in whatever run the blocks hold, by the loads at the front of the table where the elements are t triangles
pub record CrackTold (K : Kind) (min a b t : ℕ) (loads : List Float) (L : Rooms) (W : World) (at : Counts → World) (r : Ran) : Type 0 where
  pub works : (ls : List Float) → (K ≡ Triangles → take t loads ≡ ls) → Works (λ R. crack_edge K ls min R (a, b)) L W at r

-- `LinkedTried` of blocks and a table, as a contract names them
abbrev pub TriedBehind : Kind → Counts → LentIndices → LentIndices → LentIndices → LentIndices → Tried → Type 0
TriedBehind K k corners ends outline links r = LinkedTried K k.triangles k.edges k.boundary corners.exit.now ends.exit.now outline.exit.now links.exit.now r
