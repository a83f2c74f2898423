-- `columns::shift_block` meets its contract: it moves the rows in each column. The laws are in proofs/Blocks.antt.
use native.Mathlib.Omega.{arith}
use mathlib.Core.Path.{refl}
use Rattle.columns.proofs.Cells.{col_fits, next_col}
use Rattle.columns.proofs.Blocks.{block_shift_start, block_shift_more, block_shift_done}
use Rattle.columns.proofs.shift_block.Goals as goal

pub loop-c-init : goal.loop-c-init
loop-c-init g c = (omega arith, refl, λ d. block_shift_start d _ _ _ _ _ _)

pub overflow_add-o : goal.overflow_add-o
overflow_add-o g c = omega (arith, col_fits c.loop-c.c c.args.width c.args.stride (omega arith))

pub overflow_add-o-in-loop-c : goal.overflow_add-o-in-loop-c
overflow_add-o-in-loop-c g c = omega (arith, col_fits c.loop-c.c c.args.width c.args.stride (omega arith))

pub shift-requires : goal.shift-requires
shift-requires g c = (omega arith, omega (arith, col_fits c.loop-c.c c.args.width c.args.stride (omega arith)))

pub overflow_add-o-in-loop-c-2 : goal.overflow_add-o-in-loop-c-2
overflow_add-o-in-loop-c-2 g c = omega (arith, col_fits c.loop-c.c c.args.width c.args.stride (omega arith))

pub loop-c-preserved : goal.loop-c-preserved
loop-c-preserved g c =
    let pre = c.requires in
    let call = c.shift in
    (omega (arith, next_col c.loop-c.c c.args.stride), omega arith, λ d. block_shift_more d _ _ _ _ _ _ _ _ _ (c.loop-c.invariant.2 d) (omega arith) pre.0 pre.1 pre.2 _ (call.ensures d) call.auto.s)

pub returns : goal.returns
returns g c = λ d. block_shift_done d _ _ _ _ _ _ _ _ _ (c.loop-c.invariant.2 d) (omega arith)
