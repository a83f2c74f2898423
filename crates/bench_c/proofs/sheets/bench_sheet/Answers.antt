-- `bench_c::sheets::bench_sheet` meets its contract: the sheet is read. Assumes nothing.
use Rattle.bench_c.proofs.sheets.bench_sheet.Goals as goal

pub returns : goal.returns
returns c = c.read_sheet.ensures
