-- `columns::clear_block` meets its contract: it clears each column behind its front. The laws are in proofs/Blocks.antt.
use native.Mathlib.Omega.{arith}
use mathlib.Core.Path.{◌∙◌}
use Rattle.columns.proofs.Blocks.{block_clear_start, clear_part_fits, block_clear_more, block_clear_done, block_clear_all}
use Rattle.columns.proofs.clear_block.Goals as goal

pub loop-c-init : goal.loop-c-init
loop-c-init g c = block_clear_start _ _ _ _ _

pub overflow_add-e : goal.overflow_add-e
overflow_add-e g c = omega (arith, clear_part_fits _ _ _ _ _ _ _ _ c.loop-c.invariant c.loop-c-test.true c.requires.1 c.requires.0)

pub offset_bounds-s-o : goal.offset_bounds-s-o
offset_bounds-s-o g c = grind (arith, clear_part_fits _ _ _ _ _ _ _ _ c.loop-c.invariant c.loop-c-test.true c.requires.1 c.requires.0)

pub slice_bounds-clear-end : goal.slice_bounds-clear-end
slice_bounds-clear-end g c = clear_part_fits _ _ _ _ _ _ _ _ c.loop-c.invariant c.loop-c-test.true c.requires.1 c.requires.0

pub loop-c-preserved : goal.loop-c-preserved
loop-c-preserved g c = block_clear_more _ _ _ _ _ _ _ _ c.loop-c.invariant c.loop-c-test.true c.requires.1 c.requires.0 _ c.clear.ensures c.clear.auto.s

pub clear-requires-2 : goal.clear-requires-2
clear-requires-2 g c = block_clear_all _ _ _ _ _ _ _ _ c.loop-c.invariant c.loop-c-test.false c.requires.1

pub shape_of-s : goal.shape_of-s
shape_of-s g c = c.clear-2.auto.s ∙ c.loop-c.invariant.long

pub returns : goal.returns
returns g c = block_clear_done _ _ _ _ _ _ _ _ _ c.loop-c.invariant c.loop-c-test.false c.clear-2.ensures
