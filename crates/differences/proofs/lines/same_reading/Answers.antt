-- `differences::lines::same_reading` meets its contract: both rows are the same, or both are missing. Assumes nothing.
use Rattle.differences.proofs.Writing.{both_rows}
use borrow.Author.Rules.{rules}
use Rattle.differences.proofs.lines.same_reading.Goals as goal

pub returns-in-Some-s-2 : goal.returns-in-Some-s-2
returns-in-Some-s-2 c = both_rows _ _ _ _ _ _ _ _ _ _ c.in-Some.is c.in-Some-s-2.is c.same_row.ensures
