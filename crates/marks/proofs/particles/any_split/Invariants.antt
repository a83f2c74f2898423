-- `marks::particles::any_split` meets its contract. The invariant: no entry so far tells of a split. Assumes nothing.
use Rattle.marks.proofs.MarkLaws.{split_none, split_on, split_here, split_found}
use Rattle.marks.specs.Marking.{split_words}
use Rattle.mesh.specs.Log.{entry_row}
use Rattle.lists.specs.Lists.{any, tab}
use Prim.Native.Nat.{◌≤◌, ◌-◌}
use mathlib.Core.Bool.{false}
use mathlib.Core.Path.{◌≡◌}
use native.Mathlib.Omega.{arith}
use Rattle.marks.proofs.particles.any_split.Given as goal

-- `marks::particles::any_split` meets its contract. The invariant: no entry so far tells of a split. Assumes nothing.
abbrev pub invariant-loop-i : goal.invariant-loop-i
invariant-loop-i l = (l.i ≤ l.l) × (any split_words (tab l.i (entry_row l.log)) ≡ false)

abbrev pub decreases-loop-i : goal.decreases-loop-i
decreases-loop-i l = l.l - l.i
