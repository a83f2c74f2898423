-- `links::link_cell` meets its contract: the invariant is the cell linked at the corners passed (`LinkingIn` of proofs/Built.antt). Assumes nothing.
use native.Mathlib.Omega.{arith}
use Rattle.links.proofs.Built.{link_start, linking_done, corner_in, link_in, head_in, cell_linking}
use lib.ListN.{length-set}
use Rattle.links.proofs.link_cell.Goals as goal

pub loop-c-init : goal.loop-c-init
loop-c-init c = link_start _ _ _ _ _ _ _

pub bounds-corners-o : goal.bounds-corners-o
bounds-corners-o c = corner_in _ _ _ _ _ _ _ _ _ _ _ c.loop-c.invariant c.loop-c-test.true c.requires

pub bounds-table-w : goal.bounds-table-w
bounds-table-w c = head_in _ _ _ _ _ _ _ _ _ _ _ c.loop-c.invariant c.loop-c-test.true c.requires

pub bounds-table-heads : goal.bounds-table-heads
bounds-table-heads c = link_in _ _ _ _ _ _ _ _ _ _ _ c.loop-c.invariant c.loop-c-test.true c.requires

pub bounds-table-w-in-loop-c : goal.bounds-table-w-in-loop-c
bounds-table-w-in-loop-c c = simp length-set (head_in _ _ _ _ _ _ _ _ _ _ _ c.loop-c.invariant c.loop-c-test.true c.requires)

pub loop-c-preserved : goal.loop-c-preserved
loop-c-preserved c = cell_linking _ _ _ _ _ _ _ _ _ _ _ c.loop-c.invariant c.loop-c-test.true c.requires

pub shape_of-table : goal.shape_of-table
shape_of-table c = c.loop-c.invariant.linking.long

pub returns : goal.returns
returns c = linking_done _ _ _ _ _ _ _ _ _ c.loop-c.invariant.linking c.loop-c-test.false

pub offset_bounds-table-w : goal.offset_bounds-table-w
offset_bounds-table-w c = omega (arith, head_in _ _ _ _ _ _ _ _ _ _ _ c.loop-c.invariant c.loop-c-test.true c.requires)

pub offset_bounds-table-w-in-loop-c : goal.offset_bounds-table-w-in-loop-c
offset_bounds-table-w-in-loop-c c = omega (arith, head_in _ _ _ _ _ _ _ _ _ _ _ c.loop-c.invariant c.loop-c-test.true c.requires)
