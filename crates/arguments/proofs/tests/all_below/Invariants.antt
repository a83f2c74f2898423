-- `arguments::tests::all_below` meets its contract. The invariant: whether all of the rest are below n is whether all of the list are. Assumes nothing.
use Prim.Native.Nat.{◌≤◌, ◌-◌}
use mathlib.Core.Path.{◌≡◌}
use lib.Dec.{ltb}
use lib.ListN.{length, drop}
use Rattle.lists.specs.Lists.{all}
use Rattle.arguments.proofs.tests.all_below.Given as goal

-- `arguments::tests::all_below` meets its contract. The invariant: whether all of the rest are below n is whether all of the list are. Assumes nothing.
abbrev pub invariant-loop-x : goal.invariant-loop-x
invariant-loop-x l = (l.x-index ≤ length l.list) × (all (λ x. ltb x l.n) (drop l.x-index l.list) ≡ all (λ x. ltb x l.n) l.list)
