-- `readings::reading::listed_measure` meets its contract: the table, and the measures within the list. Assumes nothing.
use Rattle.mesh_tables.proofs.Accepted.{few_particles, mark_room, listed_found}
use native.Mathlib.Omega.{arith}
use Rattle.readings.proofs.reading.listed_measure.Goals as goal

pub measure_within-requires : goal.measure_within-requires
measure_within-requires c = let T = c.table-s in
    let P = c.requires in
    mark_room _ _ _ P.0 P.1 T.ensures (omega (arith, T.ensures.corners.few, T.auto.measures)) (few_particles P.0)

pub returns : goal.returns
returns c = listed_found c.table-s.ensures c.measure_within.ensures
