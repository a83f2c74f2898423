-- `judge::faults::index` meets its contract: its two words, by a law. Assumes nothing.
use Rattle.judge.proofs.Fine.{index_fine}
use Rattle.judge.proofs.faults.index.Goals as goal

pub returns : goal.returns
returns c = index_fine _ _ _ _ c.requires c.wrapping_add_usize.ensures.value
