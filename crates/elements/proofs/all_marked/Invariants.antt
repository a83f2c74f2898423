-- `elements::all_marked` meets its contract. The invariant: whether all of the rest are marked is whether all of the row are. Assumes nothing.
use Prim.Native.Nat.{◌≤◌}
use mathlib.Core.Path.{◌≡◌}
use lib.ListN.{length, drop}
use Rattle.lists.specs.Lists.{all}
use Rattle.elements.specs.Workers.{marked}
use Rattle.elements.proofs.all_marked.Given as goal

-- `elements::all_marked` meets its contract. The invariant: whether all of the rest are marked is whether all of the row are. Assumes nothing.
abbrev pub invariant-loop-i : goal.invariant-loop-i
invariant-loop-i l = (l.i ≤ length l.row) × (all (marked l.marks) (drop l.i l.row) ≡ all (marked l.marks) l.row)
