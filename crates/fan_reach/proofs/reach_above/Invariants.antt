-- `fan_reach::reach_above` meets its contract. The invariant: those below j have been looked at. Assumes nothing.
use Prim.Native.Nat.{◌<◌}
use Rattle.fan.specs.Fan.{fan}
use Rattle.fan_reach.specs.Spread.{Reaching}
use Rattle.fan_reach.proofs.reach_above.Given as goal

-- `fan_reach::reach_above` meets its contract. The invariant: those below j have been looked at. Assumes nothing.
abbrev pub invariant-loop-j : goal.invariant-loop-j
invariant-loop-j l = (l.a < l.j) × Reaching (fan l.verts l.k l.v l.needed l.sides) l.label l.a l.initial.table l.table l.j
