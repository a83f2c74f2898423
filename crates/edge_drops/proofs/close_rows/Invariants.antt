-- `edge_drops::close_rows` meets its contract: the removals are `Closing` of proofs/DropLaws.antt. Assumes nothing.
use Prim.Native.Nat.{◌+◌}
use native.Mathlib.Omega.{arith}
use Rattle.edge_drops.specs.Parted.{listed}
use Rattle.edge_drops.proofs.DropLaws.{Closing, closing_start, closing_read, closing_room, closing_more, closing_done}
use Rattle.edge_drops.proofs.PartedLaws.{listing_room, rows_closed}
use Rattle.edge_drops.proofs.close_rows.Given as goal

-- `edge_drops::close_rows` meets its contract: the removals are `Closing` of proofs/DropLaws.antt. Assumes nothing.
abbrev pub invariant-loop-more : goal.invariant-loop-more
invariant-loop-more l = Closing l.list (l.left + listed l.list) (listed l.list) l.initial.ends l.initial.lengths l.ends l.lengths l.m l.more
