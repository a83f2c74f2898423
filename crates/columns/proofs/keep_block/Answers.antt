-- `columns::keep_block` meets its contract: a turn leaves out a marked row, and moves those up to the next. The laws are in proofs/Blocks.antt.
use native.Mathlib.Omega.{arith}
use mathlib.Core.Path.{refl, ◌∙◌}
use Rattle.columns.proofs.Blocks.{block_keep_start, block_keep_more, block_keep_done}
use Rattle.columns.proofs.keep_block.Goals as goal

pub loop-r-init : goal.loop-r-init
loop-r-init g c = (refl, omega arith, c.next_marked-r.ensures.below, λ d. block_keep_start d _ _ _ _ _ _ c.next_marked-r.ensures)

pub overflow_sub-len : goal.overflow_sub-len
overflow_sub-len g c = c.next_marked-b.ensures.above

pub shift_block-requires : goal.shift_block-requires
shift_block-requires g c =
    let next = c.next_marked-b.ensures in (omega arith, omega (arith, next.above, next.below), omega arith)

pub loop-r-preserved : goal.loop-r-preserved
loop-r-preserved g c =
    let next = c.next_marked-b.ensures in (
      c.shift_block.auto.s ∙ c.loop-r.invariant.0,
      omega (arith, next.above),
      next.below,
      λ d. block_keep_more d _ _ _ _ _ _ _ _ _ _ (c.loop-r.invariant.3 d) c.loop-r-test.true next (c.shift_block.ensures d) c.shift_block.auto.s c.requires.0,
    )

pub returns : goal.returns
returns g c = λ d. block_keep_done d _ _ _ _ _ _ _ _ (c.loop-r.invariant.3 d) c.loop-r-test.false c.requires.3
