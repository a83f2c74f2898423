-- The particles and the edges of an insertion, over the blocks. Only contracts between workers need this file. Definitions only.
use Rattle.std.specs.Prelude.{ℕ, ◌+◌, ◌/◌, ◌<◌, ◌≤◌, ◌≡◌, List, length, set, Float}
use Rattle.std.specs.Float.{nan}
use Rattle.lists.specs.Lists.{map_at_of}
use Rattle.blade.specs.declared.Point.{Point}
use Rattle.columns.specs.Block.{cell}
use Rattle.model.specs.Mesh.{Particle, Edge, Mesh}
use Rattle.model.specs.Split.{only_at}
use Rattle.model.specs.Cut.{lightened, between, inserted_particles, inserted_edges}
use Rattle.mesh.specs.At.{particles_at, edges_at}
use Rattle.mesh.specs.Workers.{EdgeRoom, ParticleRoom}
use Rattle.mesh.specs.Widths.{point_columns, end_columns, length_columns}
use Rattle.mesh.specs.Limits.{particle_limit}
use Rattle.insert.specs.Plans.{planned}
use Rattle.insert.specs.declared.plan.Plan.{Plan}
use Rattle.insert.specs.declared.particles.ParticleRow.{ParticleRow}

-- ---- edges

-- edge i is x, and the others are as they were, for any number of edges
pub record EdgeStored (i : ℕ) (x : Edge) (ends ends' : List ℕ) (lengths lengths' : List Float) : Type 0 where
  pub edges : (n : ℕ) → n ≤ length ends / end_columns → n ≤ length lengths / length_columns → edges_at n ends' lengths' ≡ set (edges_at n ends lengths) i x

-- the edge is one of e, and one more has room
pub record EdgesRoom (plan : Plan) (e le ll : ℕ) : Type 0 where
  pub here : plan.number < e
  pub room : EdgeRoom (e + 1) le ll

-- the edges behind the insertion
pub record EdgesInserted (plan : Plan) (e : ℕ) (ends ends' : List ℕ) (lengths lengths' : List Float) : Type 0 where
  pub edges : edges_at (e + 1) ends' lengths' ≡ inserted_edges (planned plan) (edges_at e ends lengths)

-- ---- particles

-- how fast particle w goes, by the block of points
abbrev pub velocity_in : List Float → ℕ → Point
velocity_in points w = record { x = cell nan (length points / point_columns) points 6 w; y = cell nan (length points / point_columns) points 7 w }

-- v is lightened, for any number of particles that has v, and whatever stands in the other block
pub record Lightened (v : ℕ) (share keeps : Float) (points points' : List Float) : Type 0 where
  pub particles : (n : ℕ) (roots : List ℕ) → v < n → n ≤ length points / point_columns → particles_at n points' roots ≡ map_at_of (only_at v (lightened share keeps)) (particles_at n points roots)

-- a struct of the program as a particle of the mesh
abbrev pub particle_of : ParticleRow → Particle
particle_of r =
    record {
      x = r.at.x;
      y = r.at.y;
      rest_x = r.rest.x;
      rest_y = r.rest.y;
      mass = r.mass;
      inv = r.inverse;
      velocity_x = r.velocity.x;
      velocity_y = r.velocity.y;
      root = r.root;
      damaged = r.damaged;
    }

-- r is the new particle n of mass m, damaged as `like` is, in every mesh whose particles stand there
pub record BetweenIs (plan : Plan) (m : Float) (n damaged : ℕ) (points : List Float) (r : ParticleRow) : Type 0 where
  pub is :
      (M : Mesh) (k : ℕ) (roots : List ℕ) (like : Particle) → M.particles ≡ particles_at k points roots → plan.row.a < k → plan.row.b < k → damaged ≡ like.damaged
      → particle_of r ≡ between M (planned plan) m n like

-- both ends are among the particles before, and two more have room
pub record ParticlesRoom (plan : Plan) (lp lr : ℕ) : Type 0 where
  pub a_in : plan.row.a < plan.before
  pub b_in : plan.row.b < plan.before
  pub few : plan.before ≤ particle_limit
  pub room : ParticleRoom (plan.before + 2) lp lr

-- the particles behind the insertion
pub record ParticlesInserted (plan : Plan) (points points' : List Float) (roots roots' : List ℕ) : Type 0 where
  pub particles : (M : Mesh) → M.particles ≡ particles_at plan.before points roots → particles_at (plan.before + 2) points' roots' ≡ inserted_particles (planned plan) M
