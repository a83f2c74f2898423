-- `judge::faults::other` meets its contract: its two words, by a law. Assumes nothing.
use Rattle.std.proofs.Common.{arith}
use Rattle.judge.proofs.Fine.{other_fine}
use Rattle.judge.proofs.faults.other.Goals as goal

pub returns : goal.returns
returns c = λ p. other_fine _ _ _ _ _ _ c.requires (omega arith) c.wrapping_add_usize.ensures.value c.differ.ensures p
