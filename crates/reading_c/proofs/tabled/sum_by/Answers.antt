-- `reading_c::tabled::sum_by` meets its contract: the table, and the sum of its measures. Assumes nothing.
use Rattle.reading_c.proofs.Tabling.{measures_few, sum_found}
use Rattle.reading_c.proofs.tabled.sum_by.Goals as goal

-- `reading_c::tabled::sum_by` meets its contract: the table, and the sum of its measures. Assumes nothing.
pub image_table-s-requires : goal.image_table-s-requires
image_table-s-requires c = let P = c.requires in (P.faultless.sized, P.faultless.indices, P.room)

pub sum_of-requires : goal.sum_of-requires
sum_of-requires c = measures_few c.image_table-s.ensures

pub returns : goal.returns
returns c = sum_found c.image_table-s.ensures c.sum_of.ensures
