-- `bench_c::fans::bench_groups` meets its contract: the body is crate reading_c's. Assumes nothing.
use Rattle.bench_c.proofs.fans.bench_groups.Goals as goal

pub returns : goal.returns
returns c = c.groups.ensures
