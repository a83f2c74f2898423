-- The table of the edges at each particle (links/specs/Linked.antt) beside an insertion: what its functions ask of it, and what they leave. Definitions only.
use Rattle.std.specs.Prelude.{ℕ, ◌+◌, ◌/◌, ◌<◌, ◌≤◌, ◌≡◌, List, length, Ok, Err}
use Rattle.columns.specs.Block.{cell}
use Rattle.links.specs.Linked.{EdgesLinked}
use Rattle.work.specs.Ran.{Ran}
use Rattle.insert.specs.declared.plan.Plan.{Plan}
use Rattle.mesh.specs.Widths.{end_columns, length_columns}
use Rattle.mesh.specs.Limits.{particle_limit, edge_limit}

-- the table is that of e edges, which have lengths in a block of ll places, and v has a head in it
pub record TotalRoom (v e : ℕ) (ends : List ℕ) (ll : ℕ) (table : List ℕ) : Type 0 where
  pub linked : EdgesLinked e ends table
  pub lengths : e ≤ ll / length_columns
  pub here : v < particle_limit

-- the table is that of e edges, and the edge of the plan has the ends that its row tells
pub record StrapLinked (plan : Plan) (e : ℕ) (ends table : List ℕ) : Type 0 where
  pub linked : EdgesLinked e ends table
  pub a_is : cell 0 (length ends / end_columns) ends 0 plan.number ≡ plan.row.a
  pub b_is : cell 0 (length ends / end_columns) ends 1 plan.number ≡ plan.row.b

-- the ends are particles before the new two, which have heads; and one edge more has links
pub record NewEnds (plan : Plan) (e : ℕ) : Type 0 where
  pub a_in : plan.row.a < plan.before
  pub b_in : plan.row.b < plan.before
  pub heads : plan.before + 1 < particle_limit
  pub few : e + 1 ≤ edge_limit

-- where a step is done, the table is that of the edges behind it
abbrev pub EdgesAfter : List ℕ → List ℕ → Ran → Type 0
EdgesAfter ends table (Err c) = Unit {0}
EdgesAfter ends table (Ok q) = EdgesLinked q.edges ends table
