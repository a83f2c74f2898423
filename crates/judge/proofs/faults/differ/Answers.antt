-- `judge::faults::differ` meets its contract: the sum as it wraps. Assumes nothing.
use Rattle.judge.proofs.faults.differ.Goals as goal

pub returns : goal.returns
returns c = c.wrapping_add_usize.ensures.value
