-- `fan::shared_others` meets its contract. The invariant: the count so far and what the rest shares make the whole. Assumes nothing.
use mathlib.Core.Path.{◌≡◌}
use Prim.Native.Nat.{◌+◌, ◌≤◌}
use lib.ListN.{length, drop}
use Rattle.fan.specs.Fan.{shared_others_of}
use Rattle.fan.proofs.shared_others.Given as goal

-- `fan::shared_others` meets its contract. The invariant: the count so far and what the rest shares make the whole. Assumes nothing.
abbrev pub invariant-loop-x : goal.invariant-loop-x
invariant-loop-x l = (l.x-index ≤ length l.a) × (l.count ≤ l.x-index) × (l.count + shared_others_of l.v (drop l.x-index l.a) l.b ≡ shared_others_of l.v l.a l.b)
