-- `call_frame::logged::changed` meets its contract: it asks the kind of each entry, and stops at the first that tells of a change. Assumes nothing.
use Prim.Native.Nat.{◌≤◌, ◌-◌}
use mathlib.Core.Path.{◌≡◌}
use mathlib.Core.Bool.{false}
use Rattle.lists.specs.Lists.{any, tab}
use Rattle.mesh.specs.Log.{Words, entry_row}
use Rattle.call_frame.specs.Framed.{kind_changes_of}
use Rattle.call_frame.proofs.logged.changed.Given as goal

-- `call_frame::logged::changed` meets its contract: it asks the kind of each entry, and stops at the first that tells of a change. Assumes nothing.
abbrev pub invariant-loop-i : goal.invariant-loop-i
invariant-loop-i l = (any (λ (e : Words). kind_changes_of e.kind) (tab l.i (entry_row l.log)) ≡ false) × (l.i ≤ l.n)

abbrev pub decreases-loop-i : goal.decreases-loop-i
decreases-loop-i l = l.n - l.i
