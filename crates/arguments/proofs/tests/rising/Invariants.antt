-- `arguments::tests::rising` meets its contract. The invariant: the rest rises exactly where the list does. Assumes nothing.
use Prim.Native.Nat.{◌≤◌, ◌-◌}
use mathlib.Core.Path.{◌≡◌}
use lib.ListN.{length, drop}
use Rattle.model.specs.Calls.{strictly}
use Rattle.arguments.proofs.tests.rising.Given as goal

-- `arguments::tests::rising` meets its contract. The invariant: the rest rises exactly where the list does. Assumes nothing.
abbrev pub invariant-loop-i : goal.invariant-loop-i
invariant-loop-i l = strictly (drop (l.i - 1) l.list) ≡ strictly l.list
