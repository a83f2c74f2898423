-- What a call that only reads answers: a refusal's number, or a value. Definitions only.
use Rattle.std.specs.Prelude.{ℕ, zero, suc, Bool, true, ◌&&◌, List, eqb, ltb, length, get_or, Float, Option, None, Some}
use Rattle.std.specs.Float.Ieee.{eq}
use Rattle.lists.specs.Lists.{pick}
use Rattle.float.specs.Root.{root_of, root_refusal}
use Rattle.blade.specs.declared.Point.{Point}
use Rattle.blade.specs.declared.Hit.{Hit}
use Rattle.blade.specs.Blade.{blade_hit_of}
use Rattle.fan.specs.Fan.{Fan}
use Rattle.fan.specs.Groups.{groups_of, count_of}
use Rattle.float.specs.Numbers.{zero32}
use Rattle.model.specs.Mesh.{Particle, Mesh, blank}
use Rattle.model.specs.Elements.{kind_of, fan_of, grid_of, rest_measure, the_rest_measure_of}
use Rattle.model.specs.Split.{opening_of}
use Rattle.model.specs.Pieces.{pieces, opens_without_confetti_of}
use Rattle.model.specs.Cut.{Line}
use Rattle.model.specs.Calls.{point_ok, blade_ok, sides_ok, particles_ok, refusal}
use Rattle.model.specs.Refusals.{number_refusal, argument_refusal}

-- a refusal's number, or a value
pub data Read (A : Type 0) : Type 0 where
  refused : ℕ → Read A
  value : A → Read A

-- the number of a refusal, or 0
abbrev pub refusal_in : {A : Type 0} → Read A → ℕ
refusal_in (refused n) = n
refusal_in (value a) = 0

-- the value, unless a check refuses
abbrev pub or_refused : {A : Type 0} → ℕ → A → Read A
or_refused zero a = value a
or_refused (suc n) a = refused (suc n)

-- a root of a number below 0 or not finite: the number that crate float gives it
abbrev pub rooted : Option Float → Read Float
rooted (Some r) = value r
rooted None = refused (root_refusal None)

-- the root of x
abbrev pub root_call : Float → Read Float
root_call x = rooted (root_of x)

-- the blade test on the edge from p to q; a number of blade or point out of range: 2
unfoldable pub blade_call : Line → Point → Point → Read Hit
blade_call B p q = or_refused (pick (blade_ok B && point_ok p && point_ok q) 0 number_refusal) (blade_hit_of B.from B.to p q)

-- the groups of a fan, and how many they are
abbrev pub grouped : Fan → List ℕ × ℕ
grouped F = (groups_of F, count_of F)

-- `assign_groups`: the groups of v's fan with these sides
unfoldable pub groups_call : Bool → Mesh → ℕ → List ℕ → Read (List ℕ × ℕ)
groups_call sized M v sides = or_refused (refusal sized M true (sides_ok M v sides)) (grouped (grid_of (kind_of M) v (fan_of (kind_of M) M v) sides))

-- `rest_measure`: the measure of the whole mesh
unfoldable pub rest_measure_call : Bool → Mesh → Read Float
rest_measure_call sized M = or_refused (refusal sized M true true) (rest_measure M)

-- `rest_measure_of`: the measure of what lies in a particle list
unfoldable pub rest_measure_of_call : Bool → Mesh → List ℕ → Read Float
rest_measure_of_call sized M ps = or_refused (refusal sized M true (particles_ok M ps)) (the_rest_measure_of M ps)

-- does each group that these sides make at v reach the minimum piece
unfoldable pub opens_call : Bool → Mesh → ℕ → List ℕ → ℕ → Read Bool
opens_call sized M v sides min = or_refused (refusal sized M true (sides_ok M v sides)) (opens_without_confetti_of (kind_of M) M min (opening_of (kind_of M) M v sides))

-- how many pieces a mesh has
unfoldable pub pieces_call : Bool → Mesh → Read ℕ
pieces_call sized M = or_refused (refusal sized M true true) (pieces M)

-- the entry on a run of records: is particle v pinned, and is it damaged; particle absent: 4
unfoldable pub state_call : List Particle → ℕ → Read (Bool × Bool)
state_call ps v = or_refused (pick (ltb v (length ps)) 0 argument_refusal) (eq (get_or ps v blank).inv zero32, eqb (get_or ps v blank).damaged 1)
