-- `sheet_fields::names_in` meets its contract. Assumes nothing.
use Prim.Native.Nat.{◌-◌, ◌≤◌}
use mathlib.Core.Path.{◌≡◌}
use mathlib.Core.List.{[], ◌∷◌}
use lib.ListN.{length}
use Rattle.sheet.specs.Sheet.{all_ok}
use Rattle.bits.specs.Rows.{rows_of}
use Rattle.sheet_fields.proofs.names_in.Given as goal

-- `sheet_fields::names_in` meets its contract. Assumes nothing.
abbrev pub invariant-loop-i : goal.invariant-loop-i
invariant-loop-i l = (l.i ≤ length l.a) × (all_ok l.three l.p (rows_of (l.a ∷ l.b ∷ l.c ∷ []) l.i (length l.a - l.i)) ≡ all_ok l.three l.p (rows_of (l.a ∷ l.b ∷ l.c ∷ []) 0 (length l.a)))
