-- The particles of a split, as the model's equation on their list, and what the workers on them require and promise. Only contracts between workers need this file. Definitions only.
use Rattle.std.specs.Prelude.{ℕ, ◌+◌, ◌-◌, ◌/◌, ◌<◌, ◌≤◌, ◌≡◌, List, length, Float}
use Rattle.lists.specs.Lists.{map_at_of}
use Rattle.model.specs.Split.{Opening, total_of, copied, weighed, only_at}
use Rattle.mesh.specs.At.{particles_at}
use Rattle.mesh.specs.Widths.{point_columns, root_columns}
use Rattle.split_plan.specs.Opened.{Weighted}
use Rattle.split_plan.specs.Answers.{Grouped}

-- an opening at v of so many groups, whose parts' groups and measures these are, and whose total weight this is
pub record WeightedBy (O : Opening) (v count parts : ℕ) (total : Float) (groups : List ℕ) (measures : List Float) : Type 0 where
  pub at : O.v ≡ v
  pub count_is : O.count ≡ count
  pub grouped : Grouped O parts groups
  pub weighted : Weighted O parts measures
  pub total_is : total ≡ total_of O

-- v has the mass of group 0 and the copies stand behind the n particles
pub record ParticlesCopied (v n count parts : ℕ) (total : Float) (groups : List ℕ) (measures points points' : List Float) (roots roots' : List ℕ) : Type 0 where
  pub particles : (O : Opening) → WeightedBy O v count parts total groups measures → particles_at (n + count - 1) points' roots' ≡ copied O (particles_at n points roots)

-- a copy of v for each group but the first has room behind the n particles, in blocks of lp and lr places, and each part of the fan has a group and a measure
pub record CopyRoom (v n count parts lg lm lp lr : ℕ) : Type 0 where
  pub here : v < n
  pub two : 2 ≤ count
  pub few : count ≤ 2048
  pub groups_long : parts ≤ lg
  pub measures_long : parts ≤ lm
  pub points : n + count - 1 ≤ lp / point_columns
  pub roots : n + count - 1 ≤ lr / root_columns

-- v has mass m and inverse mass w, for any number of particles and whatever stands in the other block
pub record Weighed (v : ℕ) (m w : Float) (points points' : List Float) : Type 0 where
  pub particles : (n : ℕ) (roots : List ℕ) → n ≤ length points / point_columns → particles_at n points' roots ≡ map_at_of (only_at v (weighed m w)) (particles_at n points roots)
