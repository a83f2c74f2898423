-- `tear::tears::slacken_bridges` meets its contract: the loop over the edges is `Slackening` of proofs/TearLaws.antt. Assumes nothing.
use Prim.Native.Nat.{◌-◌}
use native.Mathlib.Omega.{arith}
use mathlib.Core.Logic.{⊎_elim}
use lib.ListN.{length-set}
use lib.Ieee.{of_bits}
use Rattle.tear.proofs.TearLaws.{Slackening, slackening_start, slackening_in, slackening_out, slackening_done}
use borrow.Author.Rules.{rules}
use Rattle.tear.proofs.tears.slacken_bridges.Given as goal

-- `tear::tears::slacken_bridges` meets its contract: the loop over the edges is `Slackening` of proofs/TearLaws.antt. Assumes nothing.
abbrev pub invariant-loop-i : goal.invariant-loop-i
invariant-loop-i l = Slackening l.v l.before l.count l.other l.e l.ends l.initial.lengths l.lengths l.i

abbrev pub decreases-loop-i : goal.decreases-loop-i
decreases-loop-i l = l.e - l.i
