-- `rewire::linked::other_edges` meets its contract: the loop over the edges at v is `Passing` of proofs/EdgeLaws.antt, where the next edge of the list comes next (proofs/LinkedLaws.antt), with the table of the rows so far. Assumes nothing.
use Rattle.links.specs.Linked.{EdgesLinked}
use Rattle.rewire.proofs.EdgeLaws.{Passing, passing_lacks, passing_done}
use Rattle.rewire.proofs.LinkedLaws.{stop_at, list_room, walk_start, walk_here, walk_inside, walk_room, walk_on, walk_done, linked_rows}
use Rattle.elements.specs.Table.{kind_is}
use lib.ListN.{length}
use mathlib.Core.Path.{◌≡◌, refl, sym, ◌∙◌}
use native.Mathlib.Omega.{arith}
use Prim.Native.Nat.{◌-◌, ◌≤◌}
use borrow.Author.Rules.{rules}
use Rattle.rewire.proofs.linked.other_edges.Goals as goal

pub cells_at-named-requires : goal.cells_at-named-requires
cells_at-named-requires c = list_room c.requires.0 c.requires.1 c.requires.2

pub loop-q-init : goal.loop-q-init
loop-q-init c = (walk_start c.requires.0, c.requires.1.linked, refl, omega arith)

pub settle_edge-requires : goal.settle_edge-requires
settle_edge-requires c = let T = c.requires.1 in (
  walk_room c.requires.0 c.cells_at-named.ensures (omega (arith, c.cells_at-named.auto.list, c.requires.2)) c.loop-q.invariant.0 c.loop-q-test.true,
  record { linked = c.loop-q.invariant.1; few = c.requires.1.few; most = c.requires.1.most; heads = c.requires.1.heads; behind = c.requires.1.behind },
)

pub shape_of-ends-in_err-rows : goal.shape_of-ends-in_err-rows
shape_of-ends-in_err-rows c = c.settle_edge.auto.ends ∙ c.loop-q.invariant.0.ends_long

pub shape_of-lengths-in_err-rows : goal.shape_of-lengths-in_err-rows
shape_of-lengths-in_err-rows c = c.settle_edge.auto.lengths ∙ c.loop-q.invariant.0.lengths_long

pub shape_of-table-in_err-rows : goal.shape_of-table-in_err-rows
shape_of-table-in_err-rows c = c.settle_edge.auto.table ∙ c.loop-q.invariant.2

pub shape_of-list-in_err-rows : goal.shape_of-list-in_err-rows
shape_of-list-in_err-rows c = c.cells_at-named.auto.list

pub returns-in_err-rows : goal.returns-in_err-rows
returns-in_err-rows c = let E = c.requires.0 in
    let C = c.cells_at-named.ensures in
    let P = c.loop-q.invariant.0 in
    let h = c.loop-q-test.true in rw c.from_residual.ensures (
      passing_lacks _ _ _ _ _ _ _ _ _ _ _ _ _ _ _ _ _ _ (walk_here E C (omega (arith, c.cells_at-named.auto.list, c.requires.2)) P h) (walk_inside E C (omega (arith, c.cells_at-named.auto.list, c.requires.2)) P h) c.settle_edge.result _ _ c.settle_edge.ensures.0 c.in_err-rows.was,
      tt,
    )

pub loop-q-preserved : goal.loop-q-preserved
loop-q-preserved c = (
  walk_on c.requires.0 c.cells_at-named.ensures (omega (arith, c.cells_at-named.auto.list, c.requires.2)) c.loop-q.invariant.0 c.loop-q-test.true c.settle_edge.ensures.0 _ c.in_ok-rows.was c.settle_edge.auto.ends c.settle_edge.auto.lengths,
  linked_rows c.in_ok-rows.was c.settle_edge.ensures.1,
  c.settle_edge.auto.table ∙ c.loop-q.invariant.2,
  omega (arith, c.loop-q-test.true),
)

pub shape_of-ends : goal.shape_of-ends
shape_of-ends c = c.loop-q.invariant.0.ends_long

pub shape_of-lengths : goal.shape_of-lengths
shape_of-lengths c = c.loop-q.invariant.0.lengths_long

pub shape_of-table : goal.shape_of-table
shape_of-table c = c.loop-q.invariant.2

pub shape_of-list : goal.shape_of-list
shape_of-list c = c.cells_at-named.auto.list

pub returns : goal.returns
returns c = (
  passing_done _ _ _ _ _ _ _ _ _ _ _ _ _ _ _ _ _ _ (walk_done c.requires.0 c.cells_at-named.ensures (omega (arith, c.cells_at-named.auto.list, c.requires.2)) c.loop-q.invariant.0 c.loop-q-test.false c.loop-q.invariant.3) (omega arith),
  c.loop-q.invariant.1,
)
