-- `columns::shift_block` meets its contract: it moves the rows in each column. The laws are in proofs/Blocks.antt.
use Prim.Native.Nat.{◌*◌}
use mathlib.Core.Path.{◌≡◌}
use lib.ListN.{length}
use Rattle.columns.proofs.Blocks.{BlockShifting}
use Rattle.columns.proofs.shift_block.Given as goal

abbrev pub invariant-loop-c : goal.invariant-loop-c
invariant-loop-c g l =
    (l.o ≡ l.c * l.stride) × (length l.s ≡ length l.initial.s) × ((d : _) → BlockShifting d l.to l.from l.len l.width l.stride l.initial.s l.s l.c l.o)
