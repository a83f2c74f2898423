-- `tear::loads::pair_load` meets its contract: the loop over the edges of one sum is `Walking` of proofs/LoadLaws.antt. Assumes nothing.
use Prim.Native.Nat.{◌+◌, ◌-◌}
use native.Mathlib.Omega.{arith}
use mathlib.Core.Logic.{⊎_elim}
use mathlib.Core.Path.{refl}
use lib.Ieee.{of_bits}
use Rattle.tear.proofs.LoadLaws.{Walking, finding_start, finding_in, finding_out, walking_on, finding_some, finding_none}
use borrow.Author.Rules.{rules}
use Rattle.tear.proofs.loads.pair_load.Given as goal

-- `tear::loads::pair_load` meets its contract: the loop over the edges of one sum is `Walking` of proofs/LoadLaws.antt. Assumes nothing.
abbrev pub invariant-loop-i : goal.invariant-loop-i
invariant-loop-i l = Walking l.x l.y l.e l.ends l.lengths l.most l.found l.i

abbrev pub decreases-loop-i : goal.decreases-loop-i
decreases-loop-i l = l.e - l.i
