-- `bench_c::fans::bench_opens_without_confetti` meets its contract: the body is crate reading_c's. Assumes nothing.
use Rattle.bench_c.proofs.fans.bench_opens_without_confetti.Goals as goal

pub returns : goal.returns
returns c = c.opens_without_confetti.ensures
