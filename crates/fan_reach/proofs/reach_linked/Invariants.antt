-- `fan_reach::reach_linked` meets its contract. The invariant: the elements that share a particle at a place of a before p have been looked at. Assumes nothing.
use Rattle.fan_reach.specs.Corners.{Meets}
use Rattle.fan_reach.specs.Spread.{Touching}
use Rattle.fan.specs.Fan.{fan}
use Prim.Native.Nat.{◌*◌}
use Rattle.fan_reach.proofs.reach_linked.Given as goal

-- `fan_reach::reach_linked` meets its contract. The invariant: the elements that share a particle at a place of a before p have been looked at. Assumes nothing.
abbrev pub invariant-loop-p : goal.invariant-loop-p
invariant-loop-p l = Touching (fan l.verts l.k l.v l.needed l.sides) l.label l.a l.initial.table l.table (Meets (fan l.verts l.k l.v l.needed l.sides) (l.a * l.k) l.p)
