use native.Mathlib.Omega.{arith}
use Prim.Native.Nat.{◌-◌}
use Rattle.crossing.proofs.CrossingLaws.{Finding, finding_start, finding_step, finding_done}
use Rattle.crossing.proofs.crossings.find_crossings.Given as goal

abbrev pub invariant-loop-i : goal.invariant-loop-i
invariant-loop-i l = Finding l.b0 l.b1 l.e l.points l.ends l.initial.numbers l.numbers l.initial.ts l.ts l.m l.i

abbrev pub decreases-loop-i : goal.decreases-loop-i
decreases-loop-i l = l.e - l.i
