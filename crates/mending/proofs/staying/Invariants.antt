-- `mending::staying` meets its contract: the count and what is still to come make the whole. Assumes nothing.
use Prim.Native.Nat.{◌+◌, ◌-◌, ◌≤◌}
use mathlib.Core.Path.{◌≡◌}
use lib.ListN.{length, drop}
use Rattle.mending.specs.Work.{zeros_of}
use Rattle.mending.proofs.staying.Given as goal

-- `mending::staying` meets its contract: the count and what is still to come make the whole. Assumes nothing.
abbrev pub invariant-loop-i : goal.invariant-loop-i
invariant-loop-i l = (l.i ≤ length l.mask) × (l.n ≤ l.i) × (l.n + zeros_of (drop l.i l.mask) ≡ zeros_of l.mask)
