-- `links::corner_at` meets its contract: the columns passed do not have v (`Looking` of proofs/Places.antt). Assumes nothing.
use Rattle.links.proofs.Places.{Looking}
use Prim.Native.Nat.{◌-◌}
use Rattle.links.proofs.corner_at.Given as goal

-- `links::corner_at` meets its contract: the columns passed do not have v (`Looking` of proofs/Places.antt). Assumes nothing.
abbrev pub invariant-loop-c : goal.invariant-loop-c
invariant-loop-c l = Looking l.k l.rows l.v l.i l.corners l.c l.q

abbrev pub decreases-loop-c : goal.decreases-loop-c
decreases-loop-c l = l.k - l.c
