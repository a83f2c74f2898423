-- What the first half of a split came to: the refusal of the room that lacks, or the number of edges at their longest. Definitions only.
use Rattle.std.specs.Prelude.{ℕ, Result}
use Rattle.mesh.specs.declared.refusals.Refusal.{Refusal}

abbrev pub Grew : Type 0
Grew = Result ℕ Refusal
