-- What the call on a run of records answers: a refusal past its end, and elsewhere what the record at v tells. Assumes nothing.
use mathlib.Core.Path.{◌≡◌, sym, ◌∙◌, ap}
use Prim.Native.Nat.{ℕ, ◌<◌, ◌≤◌}
use mathlib.Core.Bool.{Bool, true}
use mathlib.Core.List.{List}
use lib.Dec.{eqb}
use lib.ListN.{length, get_or, length-map, get_or-map}
use lib.Ieee.{eq}
use borrow.Author.Tests.{lt-ltb, le-ltb}
use Rattle.lists.specs.Lists.{pick}
use Rattle.float.specs.Numbers.{zero32}
use Rattle.model.specs.Mesh.{Particle as Model, blank}
use Rattle.model.specs.Reads.{Read, refused, value, or_refused, state_call}
use Rattle.std.specs.Prelude.{Result, Ok, Err}
use Rattle.mesh.specs.declared.refusals.Refusal.{Refusal}
use Rattle.mesh.proofs.Refused.{number_tells, refused_some}
use Rattle.records.specs.State.{particle_of, particles_of, state_in}
use Rattle.records.specs.declared.Particle.{Particle}
use Rattle.records.specs.declared.State.{State}

-- the record that is read past the end of a list: as the model's particle it is the model's
abbrev pub unused : Particle
unused = record { x = zero32; y = zero32; rest_x = zero32; rest_y = zero32; mass = zero32; inv = zero32; velocity_x = zero32; velocity_y = zero32; root = 0; damaged = 0 }

-- what a record tells
abbrev pub told_by : Particle → State
told_by p = record { pinned = eq p.inv zero32; damaged = eqb p.damaged 1 }

-- the answer at how the test came out and at the particle that is read
abbrev answered : Bool → Model → Read (Bool × Bool)
answered there p = or_refused (pick there 0 4) (eq p.inv zero32, eqb p.damaged 1)

-- as many particles as records
as_many : (ps : List Particle) → length (particles_of ps) ≡ length ps
as_many ps = length-map ps particle_of

-- past the end: 4
pub absent : (ps : List Particle) (v : ℕ) → length ps ≤ v → refused 4 ≡ state_call (particles_of ps) v
unfolding state_call
absent ps v h = sym (ap (λ (there : Bool). answered there (get_or (particles_of ps) v blank)) (le-ltb v (length (particles_of ps)) (rw (as_many ps) h)))

-- elsewhere: what the record at v tells
pub present : (ps : List Particle) (v : ℕ) → v < length ps → state_in (Ok (told_by (get_or ps v unused))) ≡ state_call (particles_of ps) v
unfolding state_call
present ps v h =
    sym (ap (λ (there : Bool). answered there (get_or (particles_of ps) v blank)) (lt-ltb v (length (particles_of ps)) (rw (as_many ps) h))
    ∙ ap (λ (p : Model). answered true p) (get_or-map particle_of ps v unused))

-- a refusal's number, or 0 where something is told
number_told : Read (Bool × Bool) → ℕ
number_told (refused n) = n
number_told (value t) = 0

-- what is told, if anything is
told_or : Bool × Bool → Read (Bool × Bool) → Bool × Bool
told_or d (refused n) = d
told_or d (value t) = t

-- no two answers say the same
state_tells : (r s : Result State Refusal) → state_in r ≡ state_in s → r ≡ s
unfolding number_told told_or
state_tells (Ok a) (Ok b) e = let p = ap (told_or (a.pinned, a.damaged)) e in λ i. Ok (record { pinned = (p i).0; damaged = (p i).1 })
state_tells (Ok a) (Err d) e = absurd (refused_some d (sym (ap number_told e)))
state_tells (Err d) (Ok b) e = absurd (refused_some d (ap number_told e))
state_tells (Err d) (Err f) e = ap Err (number_tells d f (ap number_told e))

-- any two answers that the contract allows agree: it says what the answer is by an equation, and nothing is lent to be written
pub answers_agree : (ps : List Particle) (v : ℕ) (r s : Result State Refusal) → state_in r ≡ state_call (particles_of ps) v → state_in s ≡ state_call (particles_of ps) v → r ≡ s
answers_agree ps v r s p q = state_tells r s (p ∙ sym q)
