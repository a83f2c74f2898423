-- `reading_c::fans::few_sides` meets its contract: the question is asked beside the sides. Assumes nothing.
use native.Mathlib.Omega.{arith}
use mathlib.Core.Path.{sym}
use lib.Seq.{length-take-le}
use Rattle.reading_c.proofs.Grouping.{few_front}
use Rattle.reading_c.proofs.Answering.{few_replied}
use borrow.Author.Rules.{rules}
use Rattle.reading_c.proofs.fans.few_sides.Goals as goal

pub slice_bounds-groups_asked-end : goal.slice_bounds-groups_asked-end
slice_bounds-groups_asked-end c = sym (length-take-le _ _ ((search rules)))

pub groups_asked-requires : goal.groups_asked-requires
groups_asked-requires c = few_front _ _ c.requires

pub returns : goal.returns
returns c = few_replied _ _ _ _ _ _ _ (omega arith) c.bytes_into.ensures c.groups_asked.ensures
