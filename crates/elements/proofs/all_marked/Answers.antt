-- `elements::all_marked` meets its contract. The invariant: whether all of the rest are marked is whether all of the row are. Assumes nothing.
use native.Mathlib.Omega.{arith}
use mathlib.Core.Path.{refl, sym, ◌∙◌}
use borrow.Author.Tests.{eq-eqb, ne_eqb}
use Rattle.elements.specs.Workers.{marked}
use Rattle.elements.proofs.Measures.{all_on, all_stop, all_end}
use Rattle.elements.proofs.all_marked.Goals as goal

pub loop-i-init : goal.loop-i-init
loop-i-init c = (omega arith, refl)

pub offset_bounds-marks-w : goal.offset_bounds-marks-w
offset_bounds-marks-w c = omega (arith, c.requires c.loop-i.i (omega arith))

pub bounds-marks-w : goal.bounds-marks-w
bounds-marks-w c = c.requires c.loop-i.i (omega arith)

pub returns-then-marks-w-ne1 : goal.returns-then-marks-w-ne1
returns-then-marks-w-ne1 c = let L = c.loop-i in
    let A = c.args in
    sym (all_stop (marked A.marks.now) A.row.now L.i (omega arith) (ne_eqb _ _ c.if-marks-w-ne1.true)) ∙ L.invariant.1

pub loop-i-preserved : goal.loop-i-preserved
loop-i-preserved c = let L = c.loop-i in
    let A = c.args in
    (omega arith, all_on (marked A.marks.now) A.row.now L.i (omega arith) (eq-eqb _ _ c.if-marks-w-ne1.false) ∙ L.invariant.1)

pub returns : goal.returns
returns c = let L = c.loop-i in
    let A = c.args in
    sym (all_end (marked A.marks.now) A.row.now L.i (omega arith)) ∙ L.invariant.1
