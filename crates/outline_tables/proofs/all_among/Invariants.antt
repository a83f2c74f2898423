-- `outline::all_among` meets its contract. Assumes nothing.
use Rattle.outline_tables.specs.Rows.{sides_at}
use Rattle.outline.specs.Outline.{within}
use mathlib.Core.Bool.{true}
use mathlib.Core.Path.{◌≡◌}
use Prim.Native.Nat.{◌≤◌}
use Rattle.outline_tables.proofs.all_among.Given as goal

-- `outline::all_among` meets its contract. Assumes nothing.
abbrev pub invariant-loop-i : goal.invariant-loop-i
invariant-loop-i l = (l.i ≤ l.n) × (within (sides_at l.i l.p) (sides_at l.m l.q) ≡ true)
