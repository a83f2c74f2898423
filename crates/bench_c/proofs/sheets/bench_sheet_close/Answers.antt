-- `bench_c::sheets::bench_sheet_close` meets its contract: the reader is closed. Assumes nothing.
use Rattle.bench_c.proofs.sheets.bench_sheet_close.Goals as goal

pub returns : goal.returns
returns c = c.close_sheet.ensures
