-- `bench_c::meshes::bench_rest_measure` meets its contract: the body is crate reading_c's. Assumes nothing.
use Rattle.bench_c.proofs.meshes.bench_rest_measure.Goals as goal

pub returns : goal.returns
returns c = c.rest_measure.ensures
