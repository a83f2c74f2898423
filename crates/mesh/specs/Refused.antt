-- A refusal by its number (docs/RULES.md, R3), and what a check that may refuse answers. Definitions only.
use Rattle.std.specs.Prelude.{ℕ, Result, Ok, Err}
use Rattle.model.specs.Reads.{Read, refused, value}
use Rattle.model.specs.Refusals.{size_refusal, number_refusal, name_refusal, argument_refusal, particle_refusal, edge_refusal, boundary_refusal, entry_refusal, sheet_refusal, closed_refusal, whole_refusal, strap_refusal}
use Rattle.mesh.specs.declared.refusals.Refusal.{Refusal}
use Rattle.mesh.specs.declared.refusals.Refusal.TheVariants.{Size, Number, Name, Argument, Particles, Edges, Boundary, Entries, Sheet, Closed, Whole, Straps}

-- the number by which a refusal is told
abbrev pub number_of : Refusal → ℕ
number_of Size = size_refusal
number_of Number = number_refusal
number_of Name = name_refusal
number_of Argument = argument_refusal
number_of Particles = particle_refusal
number_of Edges = edge_refusal
number_of Boundary = boundary_refusal
number_of Entries = entry_refusal
number_of Sheet = sheet_refusal
number_of Closed = closed_refusal
number_of Whole = whole_refusal
number_of Straps = strap_refusal

-- the refusal of an answer as a number, 0 where it is none
abbrev pub refusal_in : {A : Type 0} → Result A Refusal → ℕ
refusal_in (Ok a) = 0
refusal_in (Err e) = number_of e

-- an answer as the model's: the refusal by its number, or the value
abbrev pub answer_in : {A : Type 0} → Result A Refusal → Read A
answer_in (Ok a) = value a
answer_in (Err e) = refused (number_of e)
