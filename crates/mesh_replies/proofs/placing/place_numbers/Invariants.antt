-- `mesh_replies::placing::place_numbers` meets its contract: it reads each column to its place. Assumes nothing.
use Prim.Native.Nat.{◌-◌, ◌*◌}
use lib.Ieee.{nan}
use Rattle.columns.proofs.Blocks.{BlockCopying}
use Rattle.image.specs.Words.{numbers_from}
use Rattle.mesh_replies.proofs.placing.place_numbers.Given as goal

-- `mesh_replies::placing::place_numbers` meets its contract: it reads each column to its place. Assumes nothing.
abbrev pub invariant-loop-c : goal.invariant-loop-c
invariant-loop-c l = BlockCopying nan l.n l.width l.stride (numbers_from l.bytes l.at (l.width * l.n)) l.initial.block l.block l.c l.o l.a

abbrev pub decreases-loop-c : goal.decreases-loop-c
decreases-loop-c l = l.width - l.c
