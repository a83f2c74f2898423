-- `bench_c::sheets::bench_sheet_write` meets its contract: the sheet is written, and a refusal is told by its number. Assumes nothing.
use native.Mathlib.Omega.{arith}
use Rattle.mesh.proofs.Refused.{refused_as, refused_not}
use Rattle.sheet_c.proofs.Fielding.{written_few}
use Rattle.bench_c.proofs.sheets.bench_sheet_write.Goals as goal

pub overflow_cast-result : goal.overflow_cast-result
overflow_cast-result c = omega (arith, written_few _ _ _ _ c.write_sheet.ensures, refused_as c.in-Err.is, c.number.ensures)

pub returns-in-Ok : goal.returns-in-Ok
returns-in-Ok c = rw (refused_not c.in-Ok.is) at c.write_sheet.ensures

pub returns-in-Err : goal.returns-in-Err
returns-in-Err c = rw (c.number.ensures, refused_as c.in-Err.is) c.write_sheet.ensures
