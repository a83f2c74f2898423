-- `columns::copy_block` meets its contract: it copies each column. The laws are in proofs/Blocks.antt.
use Prim.Native.Nat.{◌*◌}
use mathlib.Core.Path.{◌≡◌}
use lib.ListN.{length}
use Rattle.columns.proofs.Blocks.{BlockCopying}
use Rattle.columns.proofs.copy_block.Given as goal

abbrev pub invariant-loop-c : goal.invariant-loop-c
invariant-loop-c g l =
    (l.o ≡ l.c * l.stride) × (l.a ≡ l.c * l.n) × (length l.dst ≡ length l.initial.dst) × ((d : _) → BlockCopying d l.n l.width l.stride l.src l.initial.dst l.dst l.c l.o l.a)
