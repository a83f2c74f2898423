-- `bench_c::sheets::bench_sheet_open` meets its contract: the reader is opened. Assumes nothing.
use Rattle.bench_c.proofs.sheets.bench_sheet_open.Goals as goal

pub returns : goal.returns
returns c = c.open_reader.ensures
