-- `mender::write::put_header` meets its contract. Assumes nothing.
use Rattle.mender.proofs.Puts.{header_two, header_one}
use Rattle.mender.proofs.write.put_header.Goals as goal

pub returns-then-second : goal.returns-then-second
returns-then-second c = let a = c.args in header_two a.second a.c _ _ _ c.if-second.true c.put_row.ensures c.put_field.ensures

pub returns-else-second : goal.returns-else-second
returns-else-second c = let a = c.args in header_one a.second a.c _ _ c.if-second.false c.put_four.ensures
