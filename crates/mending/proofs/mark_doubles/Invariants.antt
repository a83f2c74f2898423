-- `mending::mark_doubles` meets its contract. Assumes nothing.
use Prim.Native.Nat.{ℕ, ◌-◌, ◌≤◌}
use mathlib.Core.Path.{◌≡◌}
use lib.ListN.{length, get_or, take, drop}
use Rattle.lists.specs.Lists.{tab}
use Rattle.mending.specs.Work.{double_code, earlier_of}
use Rattle.mending.proofs.mark_doubles.Given as goal

-- `mending::mark_doubles` meets its contract. Assumes nothing.
abbrev pub invariant-loop-i : goal.invariant-loop-i
invariant-loop-i l =
    (l.i ≤ length l.a) × (length l.mask ≡ length l.initial.mask) × (drop l.i l.mask ≡ drop l.i l.initial.mask) × (take l.i l.mask ≡ tab l.i (λ (k : ℕ). double_code (get_or l.initial.mask k 0) (earlier_of l.a l.b k)))
