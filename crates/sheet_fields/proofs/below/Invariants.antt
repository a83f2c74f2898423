-- `sheet_fields::below` meets its contract. Assumes nothing.
use Prim.Native.Nat.{◌≤◌}
use mathlib.Core.Path.{◌≡◌}
use lib.ListN.{length, drop}
use Rattle.sheet.specs.Sheet.{all_below}
use Rattle.sheet_fields.proofs.below.Given as goal

-- `sheet_fields::below` meets its contract. Assumes nothing.
abbrev pub invariant-loop-x : goal.invariant-loop-x
invariant-loop-x l = (l.x-index ≤ length l.a) × (all_below l.bound (drop l.x-index l.a) ≡ all_below l.bound l.a)
