-- `reading_c::questions::groups_within` meets its contract: the entry is asked, and its answer and table are told. Assumes nothing.
use native.Mathlib.Omega.{arith}
use mathlib.Core.Path.{sym}
use lib.Seq.{length-take-le}
use Rattle.reading_c.proofs.Grouping.{front_placed, groups_small, groups_told_lem}
use Rattle.reading_c.proofs.questions.groups_within.Goals as goal

pub slice_bounds-reply_groups-end : goal.slice_bounds-reply_groups-end
slice_bounds-reply_groups-end c = omega (arith, c.requires.0, c.groups-a.auto.groups)

pub slice_bounds-reply_groups-end-2 : goal.slice_bounds-reply_groups-end-2
slice_bounds-reply_groups-end-2 c = sym (length-take-le _ _ (slice_bounds-reply_groups-end c))

pub reply_groups-requires : goal.reply_groups-requires
reply_groups-requires c = (groups_small _ _ _ _ _ _ _ _ c.groups-a.ensures, front_placed _ _ _ c.requires.0 c.requires.1)

pub returns : goal.returns
returns c = groups_told_lem _ _ _ _ _ _ _ _ _ _ c.requires.0 c.groups-a.ensures c.reply_groups.ensures
