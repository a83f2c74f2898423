-- `outline::among` meets its contract. Assumes nothing.
use Rattle.outline_tables.specs.Rows.{sides_at}
use Rattle.outline.specs.Outline.{same_pair}
use Rattle.lists.specs.Lists.{any}
use mathlib.Core.Bool.{false}
use mathlib.Core.List.{[], ◌∷◌}
use mathlib.Core.Path.{◌≡◌}
use Prim.Native.Nat.{◌≤◌}
use Rattle.outline_tables.proofs.among.Given as goal

-- `outline::among` meets its contract. Assumes nothing.
abbrev pub invariant-loop-i : goal.invariant-loop-i
invariant-loop-i l = (l.i ≤ l.m) × (any (same_pair (l.x ∷ l.y ∷ [])) (sides_at l.i l.q) ≡ false)
