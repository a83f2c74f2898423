-- `bench_c::fans::bench_fan` meets its contract: the fan is asked for. Assumes nothing.
use Rattle.bench_c.proofs.fans.bench_fan.Goals as goal

pub returns : goal.returns
returns c = c.fan.ensures
