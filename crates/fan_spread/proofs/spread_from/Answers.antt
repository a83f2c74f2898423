-- `fan_spread::spread_from` meets its contract. Assumes nothing.
use Rattle.fan_reach.proofs.Spreading.{reaching_all}
use Rattle.fan_spread.proofs.spread_from.Goals as goal

pub returns : goal.returns
returns c = reaching_all c.reach_all.ensures
