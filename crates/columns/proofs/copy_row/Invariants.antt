-- `columns::copy_row` meets its contract: it copies a row in each column. The laws are in proofs/Blocks.antt.
use Prim.Native.Nat.{◌*◌}
use mathlib.Core.Path.{◌≡◌}
use lib.ListN.{length}
use Rattle.columns.proofs.Blocks.{RowCopying}
use Rattle.columns.proofs.copy_row.Given as goal

abbrev pub invariant-loop-c : goal.invariant-loop-c
invariant-loop-c g l =
    (l.o ≡ l.c * l.stride) × (length l.s ≡ length l.initial.s) × ((d : _) → RowCopying d l.v l.i l.width l.stride l.initial.s l.s l.c l.o)
