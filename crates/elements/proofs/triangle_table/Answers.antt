-- `elements::triangle_table` meets its contract: the invariant is the table of the triangles that were passed. The laws are in proofs/Filling.antt.
use native.Mathlib.Omega.{arith}
use lib.ListN.{length-set}
use Rattle.elements.proofs.Filling.{triangling_start, triangling_more, triangling_done}
use Rattle.elements.proofs.triangle_table.Goals as goal

pub loop-i-init : goal.loop-i-init
loop-i-init c = (triangling_start _ _ _ _ _, omega arith)

pub bounds-verts-o-in-loop-i : goal.bounds-verts-o-in-loop-i
bounds-verts-o-in-loop-i c = simp length-set (omega arith)

pub bounds-verts-o-in-loop-i-2 : goal.bounds-verts-o-in-loop-i-2
bounds-verts-o-in-loop-i-2 c = simp length-set (omega arith)

pub loop-i-preserved : goal.loop-i-preserved
loop-i-preserved c = (triangling_more _ _ _ _ _ _ _ _ _ _ _ c.loop-i.invariant.0 (omega arith) (omega arith) (omega arith) c.abs.ensures, omega arith)

pub shape_of-numbers : goal.shape_of-numbers
shape_of-numbers c = c.loop-i.invariant.0.numbers_long

pub shape_of-verts : goal.shape_of-verts
shape_of-verts c = c.loop-i.invariant.0.verts_long

pub shape_of-measures : goal.shape_of-measures
shape_of-measures c = c.loop-i.invariant.0.measures_long

pub returns : goal.returns
returns c = triangling_done _ _ _ _ _ _ _ _ _ _ _ c.loop-i.invariant.0 c.loop-i.invariant.1 (omega arith)
