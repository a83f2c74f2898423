-- `link_changes::raise` meets its contract: it moves a place a turn, by the laws of crate columns. Assumes nothing.
use Prim.Native.Nat.{◌+◌, ◌-◌, ◌≤◌}
use native.Mathlib.Omega.{arith}
use Rattle.columns.proofs.Blocks.{Shifting, shift_start, shift_more, shift_done}
use Rattle.link_changes.proofs.raise.Given as goal

-- `link_changes::raise` meets its contract: it moves a place a turn, by the laws of crate columns. Assumes nothing.
abbrev pub invariant-loop-i : goal.invariant-loop-i
invariant-loop-i l = Shifting 0 l.to (l.to + 1) l.initial.table l.table l.i × (l.i ≤ l.len)
