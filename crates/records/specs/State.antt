-- Records as the model's particles, and this crate's answer as the model's. Definitions only.
use Rattle.std.specs.Prelude.{Bool, List, map, Result, Ok, Err}
use Rattle.model.specs.Mesh.{Particle as Model}
use Rattle.model.specs.Reads.{Read, refused, value}
use Rattle.mesh.specs.Refused.{number_of}
use Rattle.mesh.specs.declared.refusals.Refusal.{Refusal}
use Rattle.records.specs.declared.Particle.{Particle}
use Rattle.records.specs.declared.State.{State}

-- a record as the model's particle: field by field
abbrev pub particle_of : Particle → Model
particle_of p =
    record {
      x = p.x;
      y = p.y;
      rest_x = p.rest_x;
      rest_y = p.rest_y;
      mass = p.mass;
      inv = p.inv;
      velocity_x = p.velocity_x;
      velocity_y = p.velocity_y;
      root = p.root;
      damaged = p.damaged;
    }

-- a run of records as the model's particles, in order
abbrev pub particles_of : List Particle → List Model
particles_of ps = map particle_of ps

-- the answer of the call: a refusal's number, or pinned and damaged
abbrev pub state_in : Result State Refusal → Read (Bool × Bool)
state_in (Ok s) = value (s.pinned, s.damaged)
state_in (Err e) = refused (number_of e)
