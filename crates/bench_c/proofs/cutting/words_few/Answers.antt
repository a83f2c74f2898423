-- `bench_c::cutting::words_few` meets its contract. Assumes nothing.
use Rattle.bench_c.proofs.cutting.words_few.Goals as goal

pub returns : goal.returns
returns c = c.both.ensures
