-- `bench_c::leaves::bench_blade_hit` meets its contract: the body is crate reading_c's. Assumes nothing.
use Rattle.bench_c.proofs.leaves.bench_blade_hit.Goals as goal

pub returns : goal.returns
returns c = c.blade_hit.ensures
