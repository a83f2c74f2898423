-- `fan_spread::spread_many` meets its contract. Assumes nothing.
use Rattle.fan_reach.proofs.Corners.{linked_new}
use Rattle.fan_spread.proofs.spread_many.Goals as goal

pub link_corners-requires : goal.link_corners-requires
link_corners-requires c = linked_new c.args.verts.now c.requires.3
