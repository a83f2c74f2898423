-- Laws of listed edges that stand in the blocks still: where none is listed nothing is left out, and closing up gives the mesh that the blocks meant. Assumes nothing.
use mathlib.Core.Path.{◌≡◌, refl, sym, ◌∙◌, ap, subst}
use mathlib.Core.List.{List}
use Prim.Native.Nat.{ℕ, ◌+◌, ◌-◌, ◌≤◌}
use native.Mathlib.Omega.{arith}
use lib.ListN.{length, get_or, set, take}
use lib.Seq.{get_or-set_same}
use lib.Ieee.{Float}
use Rattle.lists.specs.LeftOut.{left_out}
use Rattle.model.specs.Run.{Run}
use Rattle.mesh.specs.At.{edges_at, mesh_at}
use Rattle.mesh.specs.Log.{World, world_at}
use Rattle.mesh.specs.Workers.{EdgeRoom}
use Rattle.links.specs.Linked.{EdgesLinked}
use Rattle.mesh.proofs.Lists.{mesh_path, world_path}
use Rattle.mesh.specs.declared.Counts.{Counts}
use Rattle.mesh.specs.declared.Rooms.{Rooms}
use Rattle.work.specs.Working.{Works}
use Rattle.work.specs.Ran.{Ran}
use Rattle.edge_drops.specs.Drops.{ListedRoom}
use Rattle.edge_drops.specs.Parted.{listed, edges_parted, mesh_parted, world_parted, Listing, ListingAfter}
use Rattle.std.specs.Prelude.{Ok, Err}

-- ---- none is listed

-- a list that was told so
pub cleared : (list : List ℕ) → 2049 ≤ length list → listed (set list 2048 0) ≡ 0
cleared list long = get_or-set_same list 2048 0 0 (omega arith)

module _ (ends : List ℕ) (lengths : List Float) (list : List ℕ) (none : listed list ≡ 0) where
  -- the edges are all that stand in the blocks
  pub edges_all : (e : ℕ) → edges_parted e ends lengths list ≡ edges_at e ends lengths
  unfolding edges_parted left_out
  edges_all e = let z : e + listed list ≡ e = omega (arith, none) in ap (λ (s : ℕ). left_out (take s list) (edges_at (e + listed list) ends lengths)) none ∙ ap (λ (n : ℕ). edges_at n ends lengths) z

  -- and so is the world
  pub world_all : (q : Counts) (points : List Float) (roots corners : List ℕ) (volumes : List Float) (outline log : List ℕ)
      → world_parted q points roots corners volumes ends lengths outline log list ≡ world_at q points roots corners volumes ends lengths outline log
  unfolding world_parted mesh_parted world_at mesh_at
  world_all q points roots corners volumes outline log = world_path (mesh_path refl refl (edges_all q.edges) refl) refl

  -- and the list is one of e edges that have room
  pub none_listed : (e le ll : ℕ) → 2049 ≤ length list → e ≤ 2048 → EdgeRoom e le ll → Listing e le ll list
  none_listed e le ll long few R =
      record {
        long = long;
        rising = record { rises = λ i j l m. omega (arith, none); below = λ i l. omega (arith, none) };
        few = omega (arith, none);
        rows = record { ends = omega (arith, none, R.ends); lengths = omega (arith, none, R.lengths) };
      }

-- ---- all go

-- behind a worker that is done the list is one of the edges
pub listing_done : (le ll : ℕ) (list : List ℕ) (r : Ran) (q : Counts) → r ≡ Ok q → ListingAfter le ll list r → Listing q.edges le ll list
listing_done le ll list r q e X = subst (ListingAfter le ll list) e X

-- what the removal of the listed edges asks
pub listing_room : {e le ll : ℕ} {list : List ℕ} → Listing e le ll list → ListedRoom list (e + listed list) (listed list) le ll
listing_room P = record { few = omega (arith, P.few, P.long); rising = P.rising; rows = P.rows }

-- where none is listed there is nothing to do
pub closed_none : (left : ℕ) (ends : List ℕ) (lengths : List Float) (list table : List ℕ) → EdgesLinked (left + listed list) ends table → listed list ≡ 0
    → (edges_at left ends lengths ≡ edges_parted left ends lengths list) × EdgesLinked left ends table
closed_none left ends lengths list table L none =
    let z : left + listed list ≡ left = omega (arith, none) in (sym (edges_all ends lengths list none left), subst (λ (n : ℕ). EdgesLinked n ends table) z L)

-- where all went, those that stay are left
module _ (left r : ℕ) (ends : List ℕ) (lengths : List Float) (ends' : List ℕ) (lengths' : List Float) (list : List ℕ) (c : r ≡ left + listed list - listed list)
    (e : edges_at r ends' lengths' ≡ left_out (take (listed list) list) (edges_at (left + listed list) ends lengths)) where
  pub rows_closed : edges_at left ends' lengths' ≡ edges_parted left ends lengths list
  unfolding edges_parted
  rows_closed = let z : r ≡ left = omega (arith, c) in ap (λ (n : ℕ). edges_at n ends' lengths') (sym z) ∙ e

  pub closed_all : (table' : List ℕ) → EdgesLinked r ends' table' → (edges_at left ends' lengths' ≡ edges_parted left ends lengths list) × EdgesLinked left ends' table'
  closed_all table' L = let z : r ≡ left = omega (arith, c) in (rows_closed, subst (λ (n : ℕ). EdgesLinked n ends' table') z L)

-- blocks that lost the listed edges mean what they meant with them
pub world_closed : (q : Counts) (points : List Float) (roots corners : List ℕ) (volumes : List Float) (ends : List ℕ) (lengths : List Float) (ends' : List ℕ) (lengths' : List Float) (outline log list : List ℕ)
    → edges_at q.edges ends' lengths' ≡ edges_parted q.edges ends lengths list
    → world_at q points roots corners volumes ends' lengths' outline log ≡ world_parted q points roots corners volumes ends lengths outline log list
unfolding world_parted mesh_parted world_at mesh_at
world_closed q points roots corners volumes ends lengths ends' lengths' outline log list e = world_path (mesh_path refl refl e refl) refl

-- ---- a worker over them

-- the worlds that the blocks may be read as
pub works_ext : {f : Run → Run} {L : Rooms} {W : World} {at at' : Counts → World} (r : Ran) → ((q : Counts) → at q ≡ at' q) → Works f L W at r → Works f L W at' r
works_ext (Err c) same w = record { went = λ R i z. w.went R i z }
works_ext (Ok q) same w = record { went = λ R i z. let g = w.went R i z in (g.0, g.1, sym (same q) ∙ g.2) }

-- the one that it came to alone
pub works_at : {f : Run → Run} {L : Rooms} {W : World} {at at' : Counts → World} (q : Counts) → at' q ≡ at q → Works f L W at (Ok q) → Works f L W at' (Ok q)
works_at q same w = record { went = λ R i z. let g = w.went R i z in (g.0, g.1, same ∙ g.2) }

-- a worker that listed none
pub works_unlisted : {f : Run → Run} {L : Rooms} {W : World} (points : List Float) (roots corners : List ℕ) (volumes : List Float) (ends : List ℕ) (lengths : List Float) (outline log list : List ℕ) (r : Ran) → listed list ≡ 0
    → Works f L W (λ z. world_at z points roots corners volumes ends lengths outline log) r → Works f L W (λ z. world_parted z points roots corners volumes ends lengths outline log list) r
works_unlisted points roots corners volumes ends lengths outline log list r none =
    works_ext r (λ q. sym (world_all ends lengths list none q points roots corners volumes outline log))

-- a worker that listed edges, and closed up
pub works_closed : {f : Run → Run} {L : Rooms} {W : World} (q : Counts) (points : List Float) (roots corners : List ℕ) (volumes : List Float) (ends : List ℕ) (lengths : List Float) (ends' : List ℕ) (lengths' : List Float) (outline log list : List ℕ)
    → edges_at q.edges ends' lengths' ≡ edges_parted q.edges ends lengths list
    → Works f L W (λ z. world_parted z points roots corners volumes ends lengths outline log list) (Ok q)
    → Works f L W (λ z. world_at z points roots corners volumes ends' lengths' outline log) (Ok q)
works_closed q points roots corners volumes ends lengths ends' lengths' outline log list e =
    works_at q (world_closed q points roots corners volumes ends lengths ends' lengths' outline log list e)
