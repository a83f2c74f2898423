-- `fan_reach::reach_below` meets its contract. The invariant: those below j have been looked at. Assumes nothing.
use Prim.Native.Nat.{◌+◌, ◌≤◌}
use Rattle.fan.specs.Fan.{fan}
use Rattle.fan_reach.specs.Spread.{Reaching}
use Rattle.fan_reach.proofs.reach_below.Given as goal

-- `fan_reach::reach_below` meets its contract. The invariant: those below j have been looked at. Assumes nothing.
abbrev pub invariant-loop-j : goal.invariant-loop-j
invariant-loop-j l = (l.j ≤ l.a + 1) × Reaching (fan l.verts l.k l.v l.needed l.sides) l.label l.a l.initial.table l.table l.j
