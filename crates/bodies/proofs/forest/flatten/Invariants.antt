-- `bodies::forest::flatten` meets its contract. The invariant: the table joins what it joined, and is flat below i. Assumes nothing.
use borrow.Author.Rules.{rules}
use native.Mathlib.Omega.{arith}
use mathlib.Core.Path.{◌≡◌}
use Prim.Native.Nat.{ℕ, ◌<◌, ◌≤◌, ◌-◌}
use native.Mathlib.Nat.{not-suc-le-zero}
use lib.ListN.{length, get_or, length-set}
use Rattle.bodies.specs.Forest.{Kept}
use Rattle.bodies.proofs.Parents.{kept_refl, kept_trans, raised, raised_flat}
use Rattle.bodies.proofs.forest.flatten.Given as goal

-- `bodies::forest::flatten` meets its contract. The invariant: the table joins what it joined, and is flat below i. Assumes nothing.
abbrev pub invariant-loop-i : goal.invariant-loop-i
invariant-loop-i l = (l.i ≤ length l.parent) × Kept l.initial.parent l.parent × ((a : ℕ) → a < l.i → get_or l.parent (get_or l.parent a 0) 0 ≡ get_or l.parent a 0)

abbrev pub decreases-loop-i : goal.decreases-loop-i
decreases-loop-i l = length l.parent - l.i
