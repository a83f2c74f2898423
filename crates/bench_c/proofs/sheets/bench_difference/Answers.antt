-- `bench_c::sheets::bench_difference` meets its contract: the differences are written. Assumes nothing.
use Rattle.bench_c.proofs.sheets.bench_difference.Goals as goal

pub returns : goal.returns
returns c = c.difference.ensures
