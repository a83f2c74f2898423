-- `elements::sum_of` meets its contract. The invariant: s is the sum of the numbers that were passed. Assumes nothing.
use Prim.Native.Nat.{◌≤◌}
use mathlib.Core.Path.{◌≡◌}
use lib.ListN.{take}
use Rattle.model.specs.Elements.{sum}
use Rattle.elements.proofs.sum_of.Given as goal

-- `elements::sum_of` meets its contract. The invariant: s is the sum of the numbers that were passed. Assumes nothing.
abbrev pub invariant-loop-i : goal.invariant-loop-i
invariant-loop-i l = (l.i ≤ l.n) × (l.s ≡ sum (take l.i l.measures))
