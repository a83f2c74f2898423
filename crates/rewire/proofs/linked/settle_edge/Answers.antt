-- `rewire::linked::settle_edge` meets its contract: no other edge, one with groups, or one that goes where it points; the table goes with it (proofs/LinkedLaws.antt). Assumes nothing.
use Rattle.rewire.proofs.EdgeLaws.{test_at, far_below, settled_none, settled_some, settled_toward}
use Rattle.rewire.proofs.LinkedLaws.{settle_ends, settle_end}
use Rattle.mesh.specs.Workers.{row_at, edge_of}
use Rattle.elements.specs.Table.{kind_is}
use Rattle.model.specs.Elements.{far_end_of}
use borrow.Author.Tests.{not-true, not-false}
use mathlib.Core.Bool.{true, false}
use mathlib.Core.Path.{◌∙◌, sym, ap}
use native.Mathlib.Omega.{arith}
use Prim.Native.Nat.{◌≤◌, ◌<◌}
use borrow.Author.Rules.{rules}
use mathlib.Core.Bool.{not}
use Rattle.rewire.proofs.linked.settle_edge.Goals as goal

-- `rewire::linked::settle_edge` meets its contract: no other edge, one with groups, or one that goes where it points; the table goes with it (proofs/LinkedLaws.antt). Assumes nothing.
pub edge_at-row-requires : goal.edge_at-row-requires
edge_at-row-requires c = let P = c.requires.0 in record { ends = omega (arith, c.requires.0.i_in, c.requires.0.copy.rows, c.requires.0.copy.columns.ends); lengths = omega (arith, c.requires.0.i_in, c.requires.0.copy.rows, c.requires.0.copy.columns.lengths) }

pub returns-then-not-is_other : goal.returns-then-not-is_other
returns-then-not-is_other c = let A = c.args in
    let P = c.requires.0 in (
      settled_none _ _ _ _ _ _ _ _ _ _ _ _ _ _ _ c.requires.0.i_in c.requires.0.copy.rows c.requires.0.copy.columns.ends
          (test_at (kind_is A.kind) A.v (edge_of c.edge_at-row.result) _ c.is_other.result false c.edge_at-row.ensures c.is_other.ensures (not-true _ (ap not c.if-not-is_other.true))),
      c.requires.1.linked,
    )

pub next_group-first-requires : goal.next_group-first-requires
next_group-first-requires c = c.requires.0.copy.ring

pub copy_number-w-requires : goal.copy_number-w-requires
copy_number-w-requires c = c.requires.0.copy.small

pub move_end-requires : goal.move_end-requires
move_end-requires c = let A = c.args in
    settle_end c.requires.0 c.requires.1
    (test_at (kind_is A.kind) A.v (edge_of c.edge_at-row.result) (row_at A.ends.now A.lengths.now A.i) c.is_other.result true c.edge_at-row.ensures c.is_other.ensures (not-false _ (ap not c.if-not-is_other.false)))
    c.copy_number-w.ensures

pub append_copies-requires : goal.append_copies-requires
append_copies-requires c = let A = c.args in
    let P = c.requires.0 in
    let T = c.requires.1 in
    let at_row = c.edge_at-row.ensures in (
      record { ring = c.requires.0.copy.ring; small = c.requires.0.copy.small; rows = c.requires.0.copy.rows; columns = record { ends = omega (arith, c.move_end.auto.ends, c.requires.0.copy.columns.ends); lengths = c.requires.0.copy.columns.lengths } },
      omega (arith, c.if-first-count.true),
      record { linked = c.move_end.ensures.1; few = c.requires.1.few; most = c.requires.1.most; heads = c.requires.1.heads; behind = omega arith },
      settle_ends P T
          (test_at (kind_is A.kind) A.v (edge_of c.edge_at-row.result) (row_at A.ends.now A.lengths.now A.i) c.is_other.result true at_row c.is_other.ensures (not-false _ (ap not c.if-not-is_other.false)))
          (edge_of c.edge_at-row.result) at_row,
    )

pub shape_of-ends-then-first-count : goal.shape_of-ends-then-first-count
shape_of-ends-then-first-count c = c.append_copies.auto.ends ∙ c.move_end.auto.ends

pub shape_of-lengths-then-first-count : goal.shape_of-lengths-then-first-count
shape_of-lengths-then-first-count c = c.append_copies.auto.lengths

pub shape_of-table-then-first-count : goal.shape_of-table-then-first-count
shape_of-table-then-first-count c = c.append_copies.auto.table ∙ c.move_end.auto.table

pub returns-then-first-count : goal.returns-then-first-count
returns-then-first-count c = let A = c.args in
    let P = c.requires.0 in
    let at_row = c.edge_at-row.ensures in (
      settled_some _ _ _ _ _ _ _ _ _ _ _ _ _ _ _ c.requires.0.i_in c.requires.0.copy.rows c.requires.0.copy.columns.ends c.far_end-x.result (c.far_end-x.ensures ∙ ap (far_end_of A.v) at_row)
          (test_at (kind_is A.kind) A.v (edge_of c.edge_at-row.result) _ c.is_other.result true at_row c.is_other.ensures (not-false _ (ap not c.if-not-is_other.false)))
          c.copy_number-w.result _ c.move_end.ensures.0 c.next_group-first.result _ _ _ (edge_of c.edge_at-row.result) at_row c.next_group-first.ensures c.if-first-count.true c.copy_number-w.ensures c.append_copies.ensures.0,
      c.append_copies.ensures.1,
    )

pub group_toward-toward-requires : goal.group_toward-toward-requires
group_toward-toward-requires c = let A = c.args in
    let P = c.requires.0 in
    let at_row = c.edge_at-row.ensures in
    let other = test_at (kind_is A.kind) A.v (edge_of c.edge_at-row.result) (row_at A.ends.now A.lengths.now A.i) c.is_other.result true at_row c.is_other.ensures (not-false _ (ap not c.if-not-is_other.false)) in
    let x_in = far_below (kind_is A.kind) A.v A.p c.far_end-x.result (row_at A.ends.now A.lengths.now A.i) other c.requires.0.ends_in (c.far_end-x.ensures ∙ ap (far_end_of A.v) at_row) in
    record { room = c.requires.0.copy.ring; x_in = omega (arith, x_in, c.requires.0.rests); v_in = omega (arith, c.requires.0.v_in, c.requires.0.rests); corners_in = λ i l. omega (arith, c.requires.0.corners_in i l, c.requires.0.rests) }

pub copy_number-w-requires-2 : goal.copy_number-w-requires-2
copy_number-w-requires-2 c = c.requires.0.copy.small

pub move_end-requires-2 : goal.move_end-requires-2
move_end-requires-2 c = let A = c.args in
    settle_end c.requires.0 c.requires.1
    (test_at (kind_is A.kind) A.v (edge_of c.edge_at-row.result) (row_at A.ends.now A.lengths.now A.i) c.is_other.result true c.edge_at-row.ensures c.is_other.ensures (not-false _ (ap not c.if-not-is_other.false)))
    c.copy_number-w-2.ensures

pub shape_of-ends : goal.shape_of-ends
shape_of-ends c = c.move_end-2.auto.ends

pub shape_of-table : goal.shape_of-table
shape_of-table c = c.move_end-2.auto.table

pub returns : goal.returns
returns c = let A = c.args in
    let P = c.requires.0 in
    let at_row = c.edge_at-row.ensures in
    let other = test_at (kind_is A.kind) A.v (edge_of c.edge_at-row.result) (row_at A.ends.now A.lengths.now A.i) c.is_other.result true at_row c.is_other.ensures (not-false _ (ap not c.if-not-is_other.false)) in
    let far = c.far_end-x.ensures ∙ ap (far_end_of A.v) at_row in
    let x_in = far_below (kind_is A.kind) A.v A.p c.far_end-x.result (row_at A.ends.now A.lengths.now A.i) other c.requires.0.ends_in far in (
      settled_toward _ _ _ _ _ _ _ _ _ _ _ _ _ _ _ c.requires.0.i_in c.requires.0.copy.rows c.requires.0.copy.columns.ends c.far_end-x.result far other
          c.copy_number-w-2.result _ c.move_end-2.ensures.0 c.next_group-first.result c.group_toward-toward.result c.next_group-first.ensures c.if-first-count.false c.copy_number-w-2.ensures
          (λ O M I. c.group_toward-toward.ensures.is O M A.p I.ringed I.at I.rests c.requires.0.rests x_in c.requires.0.v_in c.requires.0.corners_in),
      c.move_end-2.ensures.1,
    )
