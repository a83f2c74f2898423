-- `row_differences::put_list` meets its contract: the rows of both sheets are read into columns. Assumes nothing.
use lib.Seq.{length-take-le}
use mathlib.Core.Path.{sym}
use Rattle.row_differences.proofs.Walking.{list_asked, three_rows}
use Rattle.differences.proofs.Writing.{lists_as}
use Rattle.differences.specs.Differences.{rows_differ}
use Prim.Native.Nat.{ℕ}
use mathlib.Core.List.{List}
use mathlib.Core.Path.{ap₂}
use native.Mathlib.Omega.{arith}
use Rattle.row_differences.proofs.put_list.Goals as goal

pub read_three-requires : goal.read_three-requires
read_three-requires c = let p = c.requires in record { rows = p.rows; narrow = p.narrow; narrow_third = p.narrow_third; few = p.few; first = p.few; second = p.few; third = p.few }

pub read_three-requires-2 : goal.read_three-requires-2
read_three-requires-2 c = let p = c.requires in record { rows = p.rows_second; narrow = p.narrow; narrow_third = p.narrow_third; few = p.few_second; first = p.few_second; second = p.few_second; third = p.few_second }

pub slice_bounds-put_rows-end : goal.slice_bounds-put_rows-end
slice_bounds-put_rows-end c = sym (length-take-le _ _ (omega (arith, c.requires.few, c.read_three.auto.a)))

pub slice_bounds-put_rows-end-2 : goal.slice_bounds-put_rows-end-2
slice_bounds-put_rows-end-2 c = sym (length-take-le _ _ (omega (arith, c.requires.few, c.read_three.auto.b)))

pub slice_bounds-put_rows-end-3 : goal.slice_bounds-put_rows-end-3
slice_bounds-put_rows-end-3 c = sym (length-take-le _ _ (omega (arith, c.requires.few, c.read_three.auto.c)))

pub slice_bounds-put_rows-end-4 : goal.slice_bounds-put_rows-end-4
slice_bounds-put_rows-end-4 c = sym (length-take-le _ _ (omega (arith, c.requires.few_second, c.read_three-2.auto.a)))

pub slice_bounds-put_rows-end-5 : goal.slice_bounds-put_rows-end-5
slice_bounds-put_rows-end-5 c = sym (length-take-le _ _ (omega (arith, c.requires.few_second, c.read_three-2.auto.b)))

pub slice_bounds-put_rows-end-6 : goal.slice_bounds-put_rows-end-6
slice_bounds-put_rows-end-6 c = sym (length-take-le _ _ (omega (arith, c.requires.few_second, c.read_three-2.auto.c)))

pub put_rows-requires : goal.put_rows-requires
put_rows-requires c = let a = c.args in list_asked a.part a.w a.v a.first.now a.p a.n a.second.now a.q a.m _ _ _ _ _ _ _ c.requires c.read_three.ensures c.read_three-2.ensures

pub shape_of-out : goal.shape_of-out
shape_of-out c = c.put_rows.auto.out

pub returns : goal.returns
returns c = let a = c.args in let p = c.requires in lists_as c.put_rows.ensures (ap₂ (λ (f g : List (List ℕ)). rows_differ a.part 0 f g) (three_rows a.part _ a.p a.w a.v a.n _ _ _ p.three c.read_three.ensures) (three_rows a.part _ a.q a.w a.v a.m _ _ _ p.three c.read_three-2.ensures))
