-- `edge_drops::drop_rest` meets its contract: the removals are `Dropping` of proofs/DropLaws.antt. Assumes nothing.
use native.Mathlib.Omega.{arith}
use Rattle.edge_drops.proofs.DropLaws.{Dropping, dropping_start, dropping_read, dropping_room, dropping_more, dropping_done}
use Rattle.edge_drops.proofs.drop_rest.Given as goal

-- `edge_drops::drop_rest` meets its contract: the removals are `Dropping` of proofs/DropLaws.antt. Assumes nothing.
abbrev pub invariant-loop-more : goal.invariant-loop-more
invariant-loop-more l = Dropping l.list l.n l.s l.initial.ends l.initial.lengths l.initial.table l.ends l.lengths l.table l.left l.more
