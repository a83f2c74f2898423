-- `link_splits::split_links` meets its contract: the invariant is the cells of the fan that are linked anew (`Moving` of proofs/Moved.antt). Assumes nothing.
use native.Mathlib.Omega.{arith}
use mathlib.Core.Path.{◌∙◌}
use lib.ListN.{length-set}
use Rattle.columns.specs.Block.{cell}
use Rattle.link_splits.proofs.Moved.{Moving, split_start, split_row, split_small, split_copy_small, split_group, split_head, split_link, split_long, split_more, split_done}
use Rattle.link_splits.proofs.split_links.Given as goal

-- `link_splits::split_links` meets its contract: the invariant is the cells of the fan that are linked anew (`Moving` of proofs/Moved.antt). Assumes nothing.
abbrev pub invariant-loop-i : goal.invariant-loop-i
invariant-loop-i l = Moving l.v l.before l.k l.n l.heads l.span l.numbers l.groups (cell 0 l.rows l.corners) l.initial.table l.table l.i
