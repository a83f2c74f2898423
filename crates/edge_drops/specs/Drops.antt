-- What the removal of one edge and of listed edges asks, from the blocks and from the table of the edges: helpers that only contracts between workers need. Definitions only.
use Rattle.std.specs.Prelude.{ℕ, ◌+◌, ◌-◌, ◌/◌, ◌<◌, ◌≤◌, ◌≡◌, List, length, Float}
use Rattle.lists.specs.LeftOut.{Rising, without}
use Rattle.columns.specs.Block.{BlockShifted}
use Rattle.mesh.specs.At.{edges_at}
use Rattle.mesh.specs.Workers.{EdgeRoom}
use Rattle.mesh.specs.Widths.{end_columns, length_columns}
use Rattle.links.specs.Linked.{EdgesLinked}

-- edge i of the first m is to go from blocks of le and ll places
pub record RowAsked (i m le ll : ℕ) : Type 0 where
  pub here : i < m
  pub rows : EdgeRoom m le ll

-- it is gone, and the ends of the edges behind it moved up by one
pub record RowGone (i m : ℕ) (ends ends' : List ℕ) (lengths lengths' : List Float) : Type 0 where
  pub edges : edges_at (m - 1) ends' lengths' ≡ without i (edges_at m ends lengths)
  pub moved : BlockShifted 0 i (i + 1) (m - 1 - i) 4 (length ends / end_columns) ends ends'

-- edge i of the first m is to go, whose table this is; the block of lengths has ll places
pub record DropAsked (i m : ℕ) (ends : List ℕ) (ll : ℕ) (table : List ℕ) : Type 0 where
  pub linked : EdgesLinked m ends table
  pub here : i < m
  pub lengths : m ≤ ll / length_columns

-- the first s of the list are edges among the first n, rising; the blocks have places for n rows
pub record ListedRoom (list : List ℕ) (n s le ll : ℕ) : Type 0 where
  pub few : s ≤ length list
  pub rising : Rising list s n
  pub rows : EdgeRoom n le ll
