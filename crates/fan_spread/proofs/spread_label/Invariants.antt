-- `fan_spread::spread_label` meets its contract. The invariant: a is next; the measure: how many elements are not yet spread. Assumes nothing.
use Rattle.fan_reach.specs.Spread.{Going, waiting}
use Rattle.fan.specs.Fan.{fan}
use lib.ListN.{length}
use Rattle.fan_spread.proofs.spread_label.Given as goal

-- `fan_spread::spread_label` meets its contract. The invariant: a is next; the measure: how many elements are not yet spread. Assumes nothing.
abbrev pub invariant-loop-a : goal.invariant-loop-a
invariant-loop-a l = Going (fan l.verts l.k l.v l.needed l.sides) l.label l.table l.a

abbrev pub decreases-loop-a : goal.decreases-loop-a
decreases-loop-a l = waiting (length l.sides) l.table
