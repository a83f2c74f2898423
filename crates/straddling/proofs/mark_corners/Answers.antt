-- `straddling::mark_corners` meets its contract: the loop over the corners is `Nearing` of proofs/StraddlerLaws.antt. Assumes nothing.
use Rattle.straddling.proofs.StraddlerLaws.{Nearing, nearing_start, nearing_stored, nearing_passed, nearing_done}
use mathlib.Core.Logic.{⊎_elim}
use native.Mathlib.Omega.{arith}
use Prim.Native.Nat.{◌-◌}
use Rattle.straddling.proofs.mark_corners.Goals as goal
use Rattle.straddling.proofs.mark_corners.Goals.{else-x-near, then-x-near}

pub loop-i-init : goal.loop-i-init
loop-i-init c = nearing_start _ _ _

pub bounds-near-x : goal.bounds-near-x
bounds-near-x c = c.if-x-near.true

pub loop-i-preserved : goal.loop-i-preserved
loop-i-preserved c = elim c.if-x-near.branch [
  | then-x-near w ↦ nearing_stored _ _ _ _ _ c.loop-i.invariant c.loop-i-test.true _ w.if-x-near.true w.near-is
  | else-x-near w ↦ nearing_passed _ _ _ _ _ c.loop-i.invariant c.loop-i-test.true _ w.if-x-near.false w.near-is
]

pub shape_of-near : goal.shape_of-near
shape_of-near c = c.loop-i.invariant.long

pub returns : goal.returns
returns c = nearing_done _ _ _ _ _ c.loop-i.invariant c.loop-i-test.false
