-- `mending::staying` meets its contract: the count and what is still to come make the whole. Assumes nothing.
use native.Mathlib.Omega.{arith}
use Rattle.mending.proofs.Marks.{zeros_next, zeros_end}
use Rattle.mending.proofs.staying.Goals as goal

pub loop-i-init : goal.loop-i-init
loop-i-init c = (omega arith, omega arith, omega arith)

pub loop-i-preserved : goal.loop-i-preserved
loop-i-preserved c =
    let m = c.args.mask.now in
    let l = c.loop-i in
    let z = zeros_next m l.i (omega arith) in
    (omega arith, omega arith, omega arith)

pub returns : goal.returns
returns c =
    let z = zeros_end c.args.mask.now c.loop-i.i (omega arith) in
    omega arith
