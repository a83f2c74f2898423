-- `sheet_fields::whole_fit` meets its contract. Assumes nothing.
use Prim.Native.Nat.{◌≤◌}
use mathlib.Core.Path.{◌≡◌}
use mathlib.Core.List.{map}
use lib.ListN.{length, drop}
use Rattle.sheet.specs.Sheet.{all_below, the_field_of}
use Rattle.sheet_fields.proofs.whole_fit.Given as goal

-- `sheet_fields::whole_fit` meets its contract. Assumes nothing.
abbrev pub invariant-loop-i : goal.invariant-loop-i
invariant-loop-i l = (l.i ≤ length l.a) × (all_below 2048 (drop l.i (map the_field_of l.a)) ≡ all_below 2048 (map the_field_of l.a))
