-- `links::link_cell` meets its contract: the invariant is the cell linked at the corners passed (`LinkingIn` of proofs/Built.antt). Assumes nothing.
use Rattle.columns.specs.Block.{cell}
use Rattle.links.proofs.Built.{LinkingIn}
use Rattle.links.proofs.link_cell.Given as goal

-- `links::link_cell` meets its contract: the invariant is the cell linked at the corners passed (`LinkingIn` of proofs/Built.antt). Assumes nothing.
abbrev pub invariant-loop-c : goal.invariant-loop-c
invariant-loop-c l = LinkingIn l.heads l.k l.span l.rows l.i (cell 0 l.rows l.corners) l.initial.table l.table l.c l.o l.l
