-- `crossmarks::read_offsets` meets its contract. The invariant: the offsets so far stand in the table. Assumes nothing.
use Rattle.crossmarks.specs.Noting.{OffsetsAre}
use Rattle.crossmarks.proofs.NotingLaws.{offsets_none, offsets_more, offsets_done}
use mathlib.Core.Path.{◌≡◌, refl, ◌∙◌}
use Prim.Native.Nat.{◌-◌, ◌≤◌}
use native.Mathlib.Omega.{arith}
use lib.ListN.{length, length-set}
use borrow.Author.Rules.{rules}
use Rattle.crossmarks.proofs.read_offsets.Given as goal

-- `crossmarks::read_offsets` meets its contract. The invariant: the offsets so far stand in the table. Assumes nothing.
abbrev pub invariant-loop-w : goal.invariant-loop-w
invariant-loop-w l = (l.w ≤ l.p) × (length l.offsets ≡ length l.initial.offsets) × OffsetsAre l.b0 l.b1 l.points l.offsets l.w
