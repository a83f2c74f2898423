-- `links::build_links` meets its contract: the invariant is the table of the cells passed (`Building` of proofs/Built.antt). Assumes nothing.
use Rattle.links.proofs.Built.{Building}
use Rattle.columns.specs.Block.{cell}
use lib.ListN.{length}
use Rattle.links.proofs.build_links.Given as goal

-- `links::build_links` meets its contract: the invariant is the table of the cells passed (`Building` of proofs/Built.antt). Assumes nothing.
abbrev pub invariant-loop-i : goal.invariant-loop-i
invariant-loop-i l = Building l.heads l.k l.span l.n (cell 0 l.rows l.corners) (length l.initial.table) l.table l.i
