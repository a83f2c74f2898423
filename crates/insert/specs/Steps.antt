-- An insertion as one step over the blocks. Only contracts between workers need this file. Definitions only.
use Rattle.std.specs.Prelude.{ℕ, ◌/◌, ◌<◌, ◌≤◌, ◌≡◌, List, Float}
use Rattle.model.specs.Cut.{insert_step}
use Rattle.mesh.specs.Log.{world_at}
use Rattle.mesh.specs.declared.Counts.{Counts}
use Rattle.mesh.specs.declared.Rooms.{Rooms}
use Rattle.mesh.specs.Widths.{point_columns, end_columns, length_columns, root_columns, side_columns, entry_words}
use Rattle.mesh.specs.Limits.{particle_limit, edge_limit, entry_limit}
use Rattle.work.specs.Working.{Within, Works}
use Rattle.work.specs.Ran.{Ran}
use Rattle.insert.specs.Plans.{planned}
use Rattle.insert.specs.declared.plan.Plan.{Plan}

-- the plan is one for a mesh with these counts, and the blocks have the rooms
pub record StepRoom (plan : Plan) (k : Counts) (L : Rooms) (lp lr le ll lo lg : ℕ) : Type 0 where
  pub before_is : plan.before ≡ k.particles
  pub here : plan.number < k.edges
  pub a_in : plan.row.a < k.particles
  pub b_in : plan.row.b < k.particles
  pub counts : Within k L
  pub few_particles : L.particles ≤ particle_limit
  pub few_edges : L.edges ≤ edge_limit
  pub few_log : L.log ≤ entry_limit
  pub points : L.particles ≤ lp / point_columns
  pub roots : L.particles ≤ lr / root_columns
  pub ends : L.edges ≤ le / end_columns
  pub lengths : L.edges ≤ ll / length_columns
  pub outline : L.boundary ≤ lo / side_columns
  pub log : L.log ≤ lg / entry_words

-- the step was done to whatever run the blocks hold, whatever stands in the blocks of the triangles
pub record InsertTold (plan : Plan) (L : Rooms) (k : Counts) (points : List Float) (roots ends : List ℕ) (lengths : List Float) (outline log : List ℕ) (points' : List Float) (roots' ends' : List ℕ) (lengths' : List Float) (outline' log' : List ℕ) (r : Ran) : Type 0 where
  pub works :
      (corners : List ℕ) (volumes : List Float)
      → Works (insert_step (planned plan)) L (world_at k points roots corners volumes ends lengths outline log) (λ k'. world_at k' points' roots' corners volumes ends' lengths' outline' log') r
