-- `edge_drops::drop_listed` meets its contract: the last row goes as the others do (proofs/DropLaws.antt). Assumes nothing.
use mathlib.Core.Path.{◌∙◌}
use Prim.Native.Nat.{◌<◌}
use native.Mathlib.Omega.{arith}
use Rattle.edge_drops.proofs.DropLaws.{dropping_start, dropping_room, dropping_done, rest_room, rest_gone}
use Rattle.edge_drops.proofs.drop_listed.Goals as goal

-- `edge_drops::drop_listed` meets its contract: the last row goes as the others do (proofs/DropLaws.antt). Assumes nothing.
pub returns-then-s-eq0 : goal.returns-then-s-eq0
returns-then-s-eq0 c = let A = c.args in let P = c.requires in dropping_done A.list.now A.n A.s A.ends.now A.lengths.now A.table.now P.0 _ _ _ _ _ (dropping_start A.list.now A.n A.s A.ends.now A.lengths.now A.table.now P.0 P.1) c.if-s-eq0.true

pub drop_row-requires : goal.drop_row-requires
drop_row-requires c = let A = c.args in let P = c.requires in let h : 0 < A.s = omega (arith, c.if-s-eq0.false) in dropping_room A.list.now A.n A.s A.ends.now A.lengths.now A.table.now P.0 _ _ _ _ _ (dropping_start A.list.now A.n A.s A.ends.now A.lengths.now A.table.now P.0 P.1) h

pub overflow_sub-n : goal.overflow_sub-n
overflow_sub-n c = let A = c.args in let P = c.requires in let h : 0 < A.s = omega (arith, c.if-s-eq0.false) in omega (arith, (dropping_room A.list.now A.n A.s A.ends.now A.lengths.now A.table.now P.0 _ _ _ _ _ (dropping_start A.list.now A.n A.s A.ends.now A.lengths.now A.table.now P.0 P.1) h).here)

pub drop_rest-requires : goal.drop_rest-requires
drop_rest-requires c = let A = c.args in let P = c.requires in let h : 0 < A.s = omega (arith, c.if-s-eq0.false) in let D = c.drop_row in (rest_room A.list.now A.n A.s A.ends.now A.lengths.now A.table.now P.0 h _ _ D.auto.ends D.auto.lengths, D.ensures.1)

pub shape_of-ends : goal.shape_of-ends
shape_of-ends c = c.drop_rest.auto.ends ∙ c.drop_row.auto.ends

pub shape_of-lengths : goal.shape_of-lengths
shape_of-lengths c = c.drop_rest.auto.lengths ∙ c.drop_row.auto.lengths

pub shape_of-table : goal.shape_of-table
shape_of-table c = c.drop_rest.auto.table ∙ c.drop_row.auto.table

pub returns : goal.returns
returns c = let A = c.args in let P = c.requires in let h : 0 < A.s = omega (arith, c.if-s-eq0.false) in let D = c.drop_rest.ensures in let q = rest_gone A.list.now A.n A.s A.ends.now A.lengths.now A.table.now P.0 h _ _ c.drop_row.ensures.0 _ _ _ D.0 D.1 in (q.0, q.1, D.2)
