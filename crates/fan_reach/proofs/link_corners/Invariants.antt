-- `fan_reach::link_corners` meets its contract. The invariant: the places from p on are linked. Assumes nothing.
use Rattle.fan_reach.specs.Corners.{LinkedFrom}
use lib.ListN.{length}
use Prim.Native.Nat.{◌≤◌}
use Rattle.fan_reach.proofs.link_corners.Given as goal

-- `fan_reach::link_corners` meets its contract. The invariant: the places from p on are linked. Assumes nothing.
abbrev pub invariant-loop-p : goal.invariant-loop-p
invariant-loop-p l = (l.p ≤ length l.verts) × LinkedFrom l.verts l.heads l.nexts l.p
