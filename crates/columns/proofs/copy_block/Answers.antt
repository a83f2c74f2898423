-- `columns::copy_block` meets its contract: it copies each column. The laws are in proofs/Blocks.antt.
use native.Mathlib.Omega.{arith}
use mathlib.Core.Path.{refl, ◌∙◌}
use borrow.Rule.Slice.PartMut.{same_len_mid}
use Rattle.columns.proofs.Cells.{col_fits, next_col}
use Rattle.columns.proofs.Blocks.{block_copy_start, block_copy_more, block_copy_done}
use Rattle.columns.proofs.copy_block.Goals as goal

pub loop-c-init : goal.loop-c-init
loop-c-init g c = (omega arith, omega arith, refl, λ d. block_copy_start d _ _ _ _ _)

pub overflow_add-b : goal.overflow_add-b
overflow_add-b g c = omega (arith, col_fits c.loop-c.c c.args.width c.args.n (omega arith))

pub overflow_add-e : goal.overflow_add-e
overflow_add-e g c = omega (arith, col_fits c.loop-c.c c.args.width c.args.stride (omega arith))

pub offset_bounds-src-a : goal.offset_bounds-src-a
offset_bounds-src-a g c = grind (arith, col_fits c.loop-c.c c.args.width c.args.n (omega arith))

pub slice_bounds-copy-end : goal.slice_bounds-copy-end
slice_bounds-copy-end g c = omega (arith, col_fits c.loop-c.c c.args.width c.args.n (omega arith))

pub offset_bounds-dst-o : goal.offset_bounds-dst-o
offset_bounds-dst-o g c = grind (arith, col_fits c.loop-c.c c.args.width c.args.stride (omega arith))

pub loop-c-preserved : goal.loop-c-preserved
loop-c-preserved g c =
    let pre = c.requires in
    let call = c.copy in
    (omega (arith, next_col c.loop-c.c c.args.stride), omega (arith, next_col c.loop-c.c c.args.n), same_len_mid _ _ _ _ call.auto.dst ∙ c.loop-c.invariant.2, λ d. block_copy_more d _ _ _ _ _ _ _ _ _ (c.loop-c.invariant.3 d) (omega arith) pre.1 pre.2 pre.0 _ call.ensures call.auto.dst)

pub returns : goal.returns
returns g c = λ d. block_copy_done d _ _ _ _ _ _ _ _ _ (c.loop-c.invariant.3 d) (omega arith)
