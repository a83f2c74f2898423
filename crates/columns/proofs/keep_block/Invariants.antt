-- `columns::keep_block` meets its contract: a turn leaves out a marked row, and moves those up to the next. The laws are in proofs/Blocks.antt.
use Prim.Native.Nat.{◌-◌, ◌≤◌}
use mathlib.Core.Path.{◌≡◌}
use lib.ListN.{length}
use Rattle.columns.proofs.Blocks.{BlockKeeping}
use Rattle.columns.proofs.keep_block.Given as goal

abbrev pub invariant-loop-r : goal.invariant-loop-r
invariant-loop-r g l =
    (length l.s ≡ length l.initial.s) × (l.w ≤ l.r) × (l.r ≤ l.n) × ((d : _) → BlockKeeping d l.mask l.n l.width l.stride l.initial.s l.s l.w l.r)

abbrev pub decreases-loop-r : goal.decreases-loop-r
decreases-loop-r g l = l.n - l.r
