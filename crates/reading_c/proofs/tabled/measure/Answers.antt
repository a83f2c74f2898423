-- `reading_c::tabled::measure` meets its contract: the faults of the mesh, or its measure. Assumes nothing.
use native.Mathlib.Omega.{arith}
use mathlib.Core.Path.{refl, sym, ◌∙◌}
use Rattle.mesh.proofs.Refused.{refused_some}
use Rattle.image.proofs.Loading.{sized_counts}
use Rattle.readings.proofs.Refusing.{answer_handed, measure_refuses, measure_answers}
use Rattle.reading_c.proofs.Tabling.{fault_is, no_fault, small_room, large_room}
use Rattle.reading_c.proofs.tabled.measure.Goals as goal

pub returns-in_err-image_fault : goal.returns-in_err-image_fault
returns-in_err-image_fault c = answer_handed _ _ c.from_residual.ensures.1 ∙ measure_refuses _ _ (fault_is _ c.requires _ c.in_err-image_fault.ensures) (refused_some _)

pub is_small-requires : goal.is_small-requires
is_small-requires c = sized_counts _ c.requires

pub sum_in-requires : goal.sum_in-requires
sum_in-requires c = (small_room (no_fault _ c.requires _ c.in_ok-image_fault.ensures refl) (sym c.is_small.ensures ∙ c.if-is_small.true), omega arith, omega arith)

pub returns-then-is_small : goal.returns-then-is_small
returns-then-is_small c = measure_answers _ _ _ (fault_is _ c.requires _ c.in_ok-image_fault.ensures) refl c.sum_in.ensures

pub sum_in-requires-2 : goal.sum_in-requires-2
sum_in-requires-2 c = (large_room (no_fault _ c.requires _ c.in_ok-image_fault.ensures refl), omega arith, omega arith)

pub returns : goal.returns
returns c = measure_answers _ _ _ (fault_is _ c.requires _ c.in_ok-image_fault.ensures) refl c.sum_in-2.ensures
