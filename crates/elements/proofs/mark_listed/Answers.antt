-- `elements::mark_listed` meets its contract. The invariant: exactly the listed that were passed are marked. Assumes nothing.
use native.Mathlib.Omega.{arith}
use mathlib.Core.Path.{◌∙◌}
use Rattle.elements.proofs.Measures.{cleared_long, marking_start, marking_more, marking_done}
use Rattle.elements.proofs.mark_listed.Goals as goal

pub loop-i-init : goal.loop-i-init
loop-i-init c = (omega arith, marking_start _ _ _ c.clear.ensures)

pub offset_bounds-marks-w : goal.offset_bounds-marks-w
offset_bounds-marks-w c = omega (arith, c.requires c.loop-i.i (omega arith), cleared_long _ _ c.clear.ensures, c.loop-i.invariant.1.long)

pub bounds-marks-w : goal.bounds-marks-w
bounds-marks-w c = omega (arith, c.requires c.loop-i.i (omega arith), cleared_long _ _ c.clear.ensures, c.loop-i.invariant.1.long)

pub loop-i-preserved : goal.loop-i-preserved
loop-i-preserved c = (omega arith, marking_more _ _ _ _ c.loop-i.invariant.1 (omega arith) (omega (arith, c.requires c.loop-i.i (omega arith), cleared_long _ _ c.clear.ensures, c.loop-i.invariant.1.long)))

pub shape_of-marks : goal.shape_of-marks
shape_of-marks c = c.loop-i.invariant.1.long ∙ cleared_long _ _ c.clear.ensures

pub returns : goal.returns
returns c = marking_done _ _ _ _ c.loop-i.invariant.1 (omega arith)
