-- What a step came to: the refusal of the room that lacks, or the new counts. Definitions only.
use Rattle.std.specs.Prelude.{Result}
use Rattle.mesh.specs.declared.Counts.{Counts}
use Rattle.mesh.specs.declared.refusals.Refusal.{Refusal}

abbrev pub Ran : Type 0
Ran = Result Counts Refusal
