-- `link_changes::raise` meets its contract: it moves a place a turn, by the laws of crate columns. Assumes nothing.
use Prim.Native.Nat.{◌+◌, ◌-◌, ◌≤◌}
use native.Mathlib.Omega.{arith}
use Rattle.columns.proofs.Blocks.{Shifting, shift_start, shift_more, shift_done}
use Rattle.link_changes.proofs.raise.Goals as goal

pub loop-i-init : goal.loop-i-init
loop-i-init c = (shift_start _ _ _ _, omega arith)

pub loop-i-preserved : goal.loop-i-preserved
loop-i-preserved c = (shift_more _ _ _ _ _ _ c.loop-i.invariant.0 (omega arith) (omega arith), omega arith)

pub shape_of-table : goal.shape_of-table
shape_of-table c = c.loop-i.invariant.0.long

pub returns : goal.returns
returns c = shift_done _ _ _ _ _ _ _ c.loop-i.invariant.0 (omega arith)
