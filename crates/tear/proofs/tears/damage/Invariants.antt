use Prim.Native.Nat.{◌+◌, ◌-◌, ◌/◌}
use native.Mathlib.Omega.{arith}
use mathlib.Core.Path.{refl, ◌∙◌}
use lib.ListN.{length, length-set}
use Rattle.tear.proofs.TearLaws.{Hurting, hurting_start, hurting_more, hurting_done, two_set}
use borrow.Author.Rules.{rules}
use Rattle.tear.proofs.tears.damage.Given as goal

abbrev pub invariant-loop-g : goal.invariant-loop-g
invariant-loop-g l = Hurting l.before l.count l.size l.initial.roots l.roots l.g

abbrev pub decreases-loop-g : goal.decreases-loop-g
decreases-loop-g l = l.count - 1 - l.g
