-- `straddling::mark_corners` meets its contract: the loop over the corners is `Nearing` of proofs/StraddlerLaws.antt. Assumes nothing.
use Rattle.straddling.proofs.StraddlerLaws.{Nearing, nearing_start, nearing_stored, nearing_passed, nearing_done}
use mathlib.Core.Logic.{⊎_elim}
use native.Mathlib.Omega.{arith}
use Prim.Native.Nat.{◌-◌}
use Rattle.straddling.proofs.mark_corners.Given as goal

-- `straddling::mark_corners` meets its contract: the loop over the corners is `Nearing` of proofs/StraddlerLaws.antt. Assumes nothing.
abbrev pub invariant-loop-i : goal.invariant-loop-i
invariant-loop-i l = Nearing l.m l.verts l.initial.near l.near l.i
