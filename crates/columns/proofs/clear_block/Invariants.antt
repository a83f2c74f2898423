-- `columns::clear_block` meets its contract: it clears each column behind its front. The laws are in proofs/Blocks.antt.
use Rattle.columns.proofs.Blocks.{BlockClearing}
use Rattle.columns.proofs.clear_block.Given as goal

abbrev pub invariant-loop-c : goal.invariant-loop-c
invariant-loop-c g l = BlockClearing g.T.Zero.zero l.n l.width l.stride l.initial.s l.s l.c l.o
