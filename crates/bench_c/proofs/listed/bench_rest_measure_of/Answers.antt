-- `bench_c::listed::bench_rest_measure_of` meets its contract: the body is crate reading_c's. Assumes nothing.
use Rattle.bench_c.proofs.listed.bench_rest_measure_of.Goals as goal

pub returns : goal.returns
returns c = c.rest_measure_of.ensures
