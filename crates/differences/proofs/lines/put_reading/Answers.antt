-- `differences::lines::put_reading` meets its contract: the fields, or a dash. Assumes nothing.
use Rattle.differences.proofs.Writing.{as_missing, as_read, coords_read}
use borrow.Author.Rules.{rules}
use Rattle.differences.proofs.lines.put_reading.Goals as goal

pub put_row-requires : goal.put_row-requires
put_row-requires c = coords_read _ _ _ _ _ c.in-Some.is c.requires

pub returns-in-None : goal.returns-in-None
returns-in-None c = as_missing _ _ c.in-None.is c.put_text.ensures

pub returns-in-Some : goal.returns-in-Some
returns-in-Some c = as_read _ _ _ _ _ c.in-Some.is c.put_row.ensures
