-- `columns::copy_row` meets its contract: it copies a row in each column. The laws are in proofs/Blocks.antt.
use Prim.Native.Nat.{◌+◌}
use native.Mathlib.Omega.{arith}
use mathlib.Core.Path.{◌≡◌, refl, ◌∙◌}
use lib.ListN.{length, length-set, get_or, set}
use Rattle.std.proofs.lemmas.List.{get_or_read_under}
use Rattle.columns.proofs.Cells.{col_fits, next_col}
use Rattle.columns.proofs.Blocks.{RowCopying, row_copy_start, row_copy_more, row_copy_done}
use Rattle.columns.proofs.copy_row.Goals as goal

pub loop-c-init : goal.loop-c-init
loop-c-init g c = (omega arith, refl, λ d. row_copy_start d _ _ _ _ _)

pub overflow_add-s : goal.overflow_add-s
overflow_add-s g c = omega (arith, col_fits c.loop-c.c c.args.width c.args.stride (omega arith))

pub loop-c-preserved : goal.loop-c-preserved
loop-c-preserved g c =
    (omega (arith, next_col c.loop-c.c c.args.stride), length-set _ _ _ ∙ c.loop-c.invariant.1, λ d. more d)
  where
    more : (d : _) → RowCopying d c.args.v c.args.i c.args.width c.args.stride c.args.s.now (set c.loop-c.s (c.loop-c.o + c.args.i) c.index-s-o.result) (c.loop-c.c + 1) (c.loop-c.o + c.args.stride)
    more d =
        let e : c.index-s-o.result ≡ get_or c.loop-c.s (c.loop-c.o + c.args.v) d =
        get_or_read_under c.loop-c.s (c.loop-c.o + c.args.v) (length c.loop-c.s) c.index-s-o.result d c.index-s-o.is (omega (arith, col_fits c.loop-c.c c.args.width c.args.stride (omega arith))) refl in
        rw e (row_copy_more d _ _ _ _ _ _ _ _ (c.loop-c.invariant.2 d) (omega arith) c.requires.2 c.requires.0 c.requires.1)

pub returns : goal.returns
returns g c = λ d. row_copy_done d _ _ _ _ _ _ _ _ (c.loop-c.invariant.2 d) (omega arith)
