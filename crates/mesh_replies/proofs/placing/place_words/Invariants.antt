-- `mesh_replies::placing::place_words` meets its contract: it reads each column to its place. Assumes nothing.
use Prim.Native.Nat.{◌-◌, ◌*◌}
use Rattle.columns.proofs.Blocks.{BlockCopying}
use Rattle.image.specs.Words.{words_from}
use Rattle.mesh_replies.proofs.placing.place_words.Given as goal

-- `mesh_replies::placing::place_words` meets its contract: it reads each column to its place. Assumes nothing.
abbrev pub invariant-loop-c : goal.invariant-loop-c
invariant-loop-c l = BlockCopying 0 l.n l.width l.stride (words_from l.bytes l.at (l.width * l.n)) l.initial.block l.block l.c l.o l.a

abbrev pub decreases-loop-c : goal.decreases-loop-c
decreases-loop-c l = l.width - l.c
