-- `rewire::linked::append_copies` meets its contract: the loop along the ring is `Growing` of proofs/EdgeLaws.antt, with the table of the rows so far. Assumes nothing.
use borrow.Author.Rules.{rules}
use Rattle.links.specs.Linked.{EdgesLinked}
use Rattle.rewire.specs.Edges.{EndsBelow}
use Rattle.rewire.proofs.EdgeLaws.{Growing, growing_start, growing_step, growing_lacks, growing_done}
use Rattle.rewire.proofs.LinkedLaws.{copy_below}
use Rattle.mesh.specs.Workers.{edge_of}
use lib.ListN.{length}
use mathlib.Core.Path.{◌≡◌, refl, ◌∙◌, sym, subst}
use native.Mathlib.Omega.{arith}
use Prim.Native.Nat.{◌-◌, ◌+◌, ◌≤◌}
use Rattle.rewire.proofs.linked.append_copies.Goals as goal

pub next_group-g-requires : goal.next_group-g-requires
next_group-g-requires c = c.requires.0.ring

pub loop-g-init : goal.loop-g-init
loop-g-init c = (growing_start _ _ _ _ _ _ _ _ _ _ _ _ _ _ _ c.requires.0.rows c.next_group-g.ensures, c.requires.2.linked, refl)

pub shape_of-ends-then-rows-room : goal.shape_of-ends-then-rows-room
shape_of-ends-then-rows-room c = c.loop-g.invariant.0.ends_long

pub shape_of-lengths-then-rows-room : goal.shape_of-lengths-then-rows-room
shape_of-lengths-then-rows-room c = c.loop-g.invariant.0.lengths_long

pub shape_of-table-then-rows-room : goal.shape_of-table-then-rows-room
shape_of-table-then-rows-room c = c.loop-g.invariant.2

pub returns-then-rows-room : goal.returns-then-rows-room
returns-then-rows-room c = (growing_lacks c.loop-g.invariant.0 c.loop-g-test.true c.if-rows-room.true, tt)

pub copy_number-w-requires : goal.copy_number-w-requires
copy_number-w-requires c = c.requires.0.small

pub push_edge-requires : goal.push_edge-requires
push_edge-requires c = let A = c.args in
    let P = c.requires in
    let G = c.loop-g.invariant.0 in
    let f = c.if-rows-room.false in
    record {
      linked = c.loop-g.invariant.1;
      few = omega (arith, c.loop-g.invariant.0.most, P.2.few, f);
      columns = record { ends = omega (arith, P.0.columns.ends, c.loop-g.invariant.0.most, c.loop-g.invariant.0.ends_long, f); lengths = omega (arith, P.0.columns.lengths, c.loop-g.invariant.0.most, c.loop-g.invariant.0.lengths_long, f) };
      row = subst (EndsBelow 1024) (sym c.copied-copy.ensures) (copy_below A.count (edge_of A.row) P.3 P.2.most P.2.heads c.copy_number-w.ensures.among);
    }

pub next_group-g-requires-in-loop-g : goal.next_group-g-requires-in-loop-g
next_group-g-requires-in-loop-g c = c.requires.0.ring

pub loop-g-smaller : goal.loop-g-smaller
loop-g-smaller c = omega (arith, c.loop-g-test.true, c.next_group-g-in-loop-g.ensures.onward (omega (arith, c.loop-g-test.true)))

pub loop-g-preserved : goal.loop-g-preserved
loop-g-preserved c = (growing_step c.loop-g.invariant.0 _ _ c.copy_number-w.result c.next_group-g-in-loop-g.result (edge_of c.copied-copy.result) c.loop-g-test.true (omega (arith, c.loop-g.invariant.0.most, c.if-rows-room.false)) c.copy_number-w.ensures c.copied-copy.ensures c.push_edge.ensures.0 c.push_edge.auto.ends c.push_edge.auto.lengths c.next_group-g-in-loop-g.ensures, c.push_edge.ensures.1, c.push_edge.auto.table ∙ c.loop-g.invariant.2)

pub shape_of-ends : goal.shape_of-ends
shape_of-ends c = c.loop-g.invariant.0.ends_long

pub shape_of-lengths : goal.shape_of-lengths
shape_of-lengths c = c.loop-g.invariant.0.lengths_long

pub shape_of-table : goal.shape_of-table
shape_of-table c = c.loop-g.invariant.2

pub returns : goal.returns
returns c = (growing_done c.loop-g.invariant.0 c.loop-g-test.false, c.loop-g.invariant.1)
