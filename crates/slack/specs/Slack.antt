-- Edges with an end at a particle or behind it, slack: impulse 0 and stress 0, over the lent blocks. Only contracts between workers need this file. Definitions only.
use Rattle.std.specs.Prelude.{ℕ, ◌/◌, ◌<◌, ◌≤◌, ◌≡◌, Bool, ◌||◌, List, map, length, leb, Float}
use Rattle.lists.specs.Lists.{pick}
use Rattle.model.specs.Mesh.{Edge}
use Rattle.model.specs.Cut.{slack}
use Rattle.mesh.specs.At.{edge_row, edges_at}
use Rattle.mesh.specs.Widths.{end_columns, length_columns}

-- an edge with an end at `from` or behind it
unfoldable pub beyond : ℕ → Edge → Bool
beyond from e = leb from e.a || leb from e.b

-- such an edge is slack, any other as it was
unfoldable pub slack_beyond : ℕ → Edge → Edge
slack_beyond from e = pick (beyond from e) (slack e) e

-- edge j of the blocks
abbrev pub edge_in : List ℕ → ℕ → List Float → ℕ → Edge
edge_in ends ll lengths j = edge_row (length ends / end_columns) (ll / length_columns) ends lengths j

-- edge j is there
pub record EdgeHere (j le ll : ℕ) : Type 0 where
  pub ends : j < le / end_columns
  pub lengths : j < ll / length_columns

-- edge j is slack if it is beyond, and the others are as they were
pub record SlackAt (from j : ℕ) (ends : List ℕ) (lengths lengths' : List Float) : Type 0 where
  pub here : edge_in ends (length lengths) lengths' j ≡ slack_beyond from (edge_in ends (length lengths) lengths j)
  pub others : (k : ℕ) → k < length lengths / length_columns → (k ≡ j → ⊥) → edge_in ends (length lengths) lengths' k ≡ edge_in ends (length lengths) lengths k

-- the first e edges are there
pub record EdgesHere (e le ll : ℕ) : Type 0 where
  pub ends : e ≤ le / end_columns
  pub lengths : e ≤ ll / length_columns

-- those of the first e edges that are beyond are slack
pub record SlackFrom (from e : ℕ) (ends : List ℕ) (lengths lengths' : List Float) : Type 0 where
  pub edges : edges_at e ends lengths' ≡ map (slack_beyond from) (edges_at e ends lengths)
