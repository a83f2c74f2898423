-- `link_changes::raise_links` meets its contract: the columns passed are moved (`Raising` of proofs/Dropped.antt). Assumes nothing.
use Rattle.link_changes.proofs.Dropped.{Raising, raising_start, raising_fits, raising_more, raising_done}
use Prim.Native.Nat.{◌-◌}
use native.Mathlib.Omega.{arith}
use Rattle.link_changes.proofs.raise_links.Given as goal

-- `link_changes::raise_links` meets its contract: the columns passed are moved (`Raising` of proofs/Dropped.antt). Assumes nothing.
abbrev pub invariant-loop-c : goal.invariant-loop-c
invariant-loop-c l = Raising l.i l.heads l.k l.span l.n l.initial.table l.table l.c l.o
