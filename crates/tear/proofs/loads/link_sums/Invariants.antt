-- `tear::loads::link_sums` meets its contract: the loop from the last edge to the first is `Linking` of proofs/LinkLaws.antt. Assumes nothing.
use Prim.Native.Nat.{◌-◌}
use native.Mathlib.Omega.{arith}
use Rattle.tear.proofs.LinkLaws.{Linking, linking_start, linking_more, linking_done, sum_met, head_met}
use Rattle.tear.specs.Loads.{end_sum}
use borrow.Author.Rules.{rules}
use Rattle.tear.proofs.loads.link_sums.Given as goal

-- `tear::loads::link_sums` meets its contract: the loop from the last edge to the first is `Linking` of proofs/LinkLaws.antt. Assumes nothing.
abbrev pub invariant-loop-i : goal.invariant-loop-i
invariant-loop-i l = Linking l.e l.ends l.initial.heads l.initial.nexts l.heads l.nexts l.i
