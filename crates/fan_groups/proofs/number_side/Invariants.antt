-- `fan_groups::number_side` meets its contract. The invariant: the turns up to place i of this side. Assumes nothing.
use mathlib.Core.Path.{◌≡◌}
use Prim.Native.Nat.{◌+◌, ◌≤◌}
use lib.ListN.{length}
use Rattle.fan.specs.Parts.{Turns}
use Rattle.fan_groups.proofs.number_side.Given as goal

-- `fan_groups::number_side` meets its contract. The invariant: the turns up to place i of this side. Assumes nothing.
abbrev pub invariant-loop-i : goal.invariant-loop-i
invariant-loop-i l = (l.i ≤ length l.sides) × (length l.table ≡ length l.sides) × (l.count ≤ l.from + l.i) × Turns l.sides l.side l.initial.table l.from l.side l.i l.table l.count
