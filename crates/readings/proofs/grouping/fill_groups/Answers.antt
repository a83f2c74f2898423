-- `readings::grouping::fill_groups` meets its contract: groups at the front of the table, 0 behind them. Assumes nothing.
use Rattle.readings.proofs.Grouped.{fan_fits, filled}
use lib.Seq.{length-take-le}
use mathlib.Core.Path.{sym}
use Rattle.readings.proofs.grouping.fill_groups.Goals as goal

pub slice_bounds-groups_of-end-2 : goal.slice_bounds-groups_of-end-2
slice_bounds-groups_of-end-2 c = sym (length-take-le _ _ c.requires.1)

pub groups_of-n-requires : goal.groups_of-n-requires
groups_of-n-requires c = let P = c.requires in
    fan_fits P.0 (length-take-le _ _ P.1)

pub returns : goal.returns
returns c = let G = c.groups_of-n in
    filled _ _ _ _ G.auto.groups c.requires.1 G.ensures c.clear.ensures
