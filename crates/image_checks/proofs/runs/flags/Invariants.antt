-- `image_checks::runs::flags` meets its contract: the word of the bits of all words so far is a flag where each of them is. Assumes nothing.
use Prim.Native.Nat.{◌≤◌, ◌-◌}
use mathlib.Core.Path.{◌≡◌}
use lib.Dec.{ltb}
use Rattle.model.specs.Valid.{flag?}
use Rattle.image_checks.specs.Runs.{words_ok}
use Rattle.image_checks.proofs.runs.flags.Given as goal

-- `image_checks::runs::flags` meets its contract: the word of the bits of all words so far is a flag where each of them is. Assumes nothing.
abbrev pub invariant-loop-i : goal.invariant-loop-i
invariant-loop-i l = (ltb l.bits 2 ≡ words_ok flag? l.bytes l.at l.i) × (l.i ≤ l.n)

abbrev pub decreases-loop-i : goal.decreases-loop-i
decreases-loop-i l = l.n - l.i
