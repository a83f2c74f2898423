-- `reading_c::tabled::listed_by` meets its contract: the table, and the measures within the list. Assumes nothing.
use native.Mathlib.Omega.{arith}
use mathlib.Core.Path.{sym}
use lib.Seq.{length-take-le}
use Rattle.mesh_tables.proofs.Accepted.{mark_room, listed_found}
use Rattle.reading_c.proofs.Tabling.{accepted_image, measures_few, marks_wide}
use Rattle.reading_c.proofs.tabled.listed_by.Goals as goal

-- `reading_c::tabled::listed_by` meets its contract: the table, and the measures within the list. Assumes nothing.
pub image_table-s-requires : goal.image_table-s-requires
image_table-s-requires c = let P = c.requires.0 in (c.requires.0.faultless.sized, c.requires.0.faultless.indices, c.requires.0.room)

pub slice_bounds-measure_within-end : goal.slice_bounds-measure_within-end
slice_bounds-measure_within-end c = omega (arith, c.requires.1.marks_long, c.image_table-s.auto.numbers)

pub slice_bounds-measure_within-end-2 : goal.slice_bounds-measure_within-end-2
slice_bounds-measure_within-end-2 c = sym (length-take-le _ _ ((omega (arith, c.requires.1.marks_long, c.image_table-s.auto.numbers))))

pub measure_within-requires : goal.measure_within-requires
measure_within-requires c = let T = c.image_table-s.ensures in
    let P = c.requires in
    mark_room _ _ _ (accepted_image P.0.faultless) P.1.listed T (measures_few T) (marks_wide _ P.1 (length-take-le _ _ ((omega (arith, c.requires.1.marks_long, c.image_table-s.auto.numbers)))))

pub returns : goal.returns
returns c = listed_found c.image_table-s.ensures c.measure_within.ensures
