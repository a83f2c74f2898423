-- `bench_c::leaves::bench_root` meets its contract: the body is crate reading_c's. Assumes nothing.
use Rattle.bench_c.proofs.leaves.bench_root.Goals as goal

pub returns : goal.returns
returns c = c.root.ensures
