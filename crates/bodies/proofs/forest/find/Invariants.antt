-- `bodies::forest::find` meets its contract. The invariant: the table joins what it joined, and start to i; i falls. Assumes nothing.
use borrow.Author.Rules.{rules}
use native.Mathlib.Omega.{arith}
use Prim.Native.Nat.{◌<◌, ◌-◌}
use lib.ListN.{length, get_or}
use lib.Seq.{get_or-set_same}
use Rattle.lists.specs.Chain.{Chain, stay, ahead}
use Rattle.bodies.specs.Forest.{Kept, Up}
use Rattle.lists.proofs.Chains.{chain_map, chain_trans}
use Rattle.bodies.proofs.Parents.{kept_refl, kept_trans, raised}
use Rattle.bodies.proofs.forest.find.Given as goal

-- `bodies::forest::find` meets its contract. The invariant: the table joins what it joined, and start to i; i falls. Assumes nothing.
abbrev pub invariant-loop-i : goal.invariant-loop-i
invariant-loop-i l = (l.i < length l.parent) × Kept l.initial.parent l.parent × Chain (Up l.parent) l.start l.i

abbrev pub decreases-loop-i : goal.decreases-loop-i
decreases-loop-i l = l.i
