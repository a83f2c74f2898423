-- `fan_spread::spread_all` meets its contract. The invariant: the labels below i are spread. Assumes nothing.
use Rattle.fan_reach.specs.Spread.{Settled}
use Rattle.fan.specs.Fan.{fan}
use lib.ListN.{length}
use Prim.Native.Nat.{◌≤◌}
use Rattle.fan_spread.proofs.spread_all.Given as goal

-- `fan_spread::spread_all` meets its contract. The invariant: the labels below i are spread. Assumes nothing.
abbrev pub invariant-loop-i : goal.invariant-loop-i
invariant-loop-i l = (l.i ≤ length l.sides) × Settled (fan l.verts l.k l.v l.needed l.sides) l.i l.table
