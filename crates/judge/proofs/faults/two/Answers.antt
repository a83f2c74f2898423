-- `judge::faults::two` meets its contract: an index, and another one. Assumes nothing.
use Rattle.judge.proofs.Fine.{two_fine}
use Rattle.judge.proofs.faults.two.Goals as goal

pub returns : goal.returns
returns c = two_fine _ _ _ _ _ c.index.ensures c.other.ensures
