-- `bench_c::sheets::bench_list_cut` meets its contract: the listing is written. Assumes nothing.
use Rattle.bench_c.proofs.sheets.bench_list_cut.Goals as goal

pub returns : goal.returns
returns c = c.list_cut.ensures
