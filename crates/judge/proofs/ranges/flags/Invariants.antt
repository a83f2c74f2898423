-- `judge::ranges::flags` meets its contract: the word of the bits of all words so far is a flag where each of them is. Assumes nothing.
use Rattle.std.proofs.Common.{◌≡◌, ◌-◌, ◌≤◌, ltb}
use Rattle.judge.specs.Told.{column_ok}
use Rattle.model.specs.Valid.{flag?}
use Rattle.judge.proofs.ranges.flags.Given as goal

-- `judge::ranges::flags` meets its contract: the word of the bits of all words so far is a flag where each of them is. Assumes nothing.
abbrev pub invariant-loop-i : goal.invariant-loop-i
invariant-loop-i l = (ltb l.bits 2 ≡ column_ok flag? 0 l.s l.at l.i) × (l.i ≤ l.n)

abbrev pub decreases-loop-i : goal.decreases-loop-i
decreases-loop-i l = l.n - l.i
