-- `mending::earlier` meets its contract. Assumes nothing.
use Prim.Native.Nat.{ℕ, ◌-◌, ◌≤◌}
use mathlib.Core.Path.{◌≡◌}
use mathlib.Core.Bool.{false}
use lib.ListN.{get_or}
use Rattle.lists.specs.Lists.{any, up_to}
use Rattle.mending.specs.Work.{same_ends_of}
use Rattle.mending.proofs.earlier.Given as goal

-- `mending::earlier` meets its contract. Assumes nothing.
abbrev pub invariant-loop-j : goal.invariant-loop-j
invariant-loop-j l = (l.j ≤ l.k) × (any (λ (i : ℕ). same_ends_of (get_or l.a l.k 0) (get_or l.b l.k 0) (get_or l.a i 0) (get_or l.b i 0)) (up_to l.j) ≡ false)
