-- `outline::outline_straps` meets its contract. Assumes nothing.
use mathlib.Core.Path.{◌≡◌}
use Prim.Native.Nat.{◌≤◌}
use lib.ListN.{length}
use Rattle.lists.specs.Lists.{tab}
use Rattle.outline.specs.Outline.{outline_of_straps}
use Rattle.outline_tables.specs.Rows.{row3, Added}
use Rattle.outline_tables.proofs.outline_straps.Given as goal

-- `outline::outline_straps` meets its contract. Assumes nothing.
abbrev pub invariant-loop-i : goal.invariant-loop-i
invariant-loop-i l = (l.i ≤ length l.a) × (l.n ≤ l.i) × (length l.outline ≡ length l.initial.outline) × Added (outline_of_straps (tab l.i (row3 l.a l.b l.c))) l.initial.outline l.outline 0 l.n
