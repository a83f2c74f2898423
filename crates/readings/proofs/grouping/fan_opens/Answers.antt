-- `readings::grouping::fan_opens` meets its contract: the groups, and the walk from them. Assumes nothing.
use lib.ListN.{length}
use mathlib.Core.Path.{sym}
use lib.Seq.{length-take-le}
use Rattle.readings.proofs.Grouped.{fan_fits, front_long, walked}
use Rattle.readings.proofs.grouping.fan_opens.Goals as goal

pub slice_bounds-groups_of-end-2 : goal.slice_bounds-groups_of-end-2
slice_bounds-groups_of-end-2 c = sym (length-take-le _ _ c.requires.1)

pub groups_of-count-requires : goal.groups_of-count-requires
groups_of-count-requires c = let P = c.requires in fan_fits P.0 (length-take-le _ _ P.1)

pub slice_bounds-opens_without_confetti-end-2 : goal.slice_bounds-opens_without_confetti-end-2
slice_bounds-opens_without_confetti-end-2 c = let G = c.groups_of-count in
    let A = c.args in
    sym (front_long G.new.groups A.groups.now (length A.sides.now) G.auto.groups c.requires.1)

pub opens_without_confetti-requires : goal.opens_without_confetti-requires
opens_without_confetti-requires c = let G = c.groups_of-count in
    let A = c.args in
    let P = c.requires in
    P.2.asked _ (front_long G.new.groups A.groups.now (length A.sides.now) G.auto.groups P.1)

pub returns : goal.returns
returns c = let G = c.groups_of-count in
    let A = c.args in
    walked G.new.groups A.groups.now (length A.sides.now) G.auto.groups c.requires.1 G.ensures c.opens_without_confetti.ensures
