-- `links::cells_at` meets its contract: the invariant is the cells found (`Walking` of proofs/Walked.antt). Assumes nothing.
use Prim.Native.Nat.{◌-◌}
use Rattle.links.proofs.Walked.{Walking}
use Rattle.columns.specs.Block.{cell}
use lib.ListN.{length}
use Rattle.links.proofs.cells_at.Given as goal

-- `links::cells_at` meets its contract: the invariant is the cells found (`Walking` of proofs/Walked.antt). Assumes nothing.
abbrev pub invariant-loop-at : goal.invariant-loop-at
invariant-loop-at l = Walking l.k l.n (cell 0 l.rows l.corners) l.v l.list l.r l.at (length l.initial.list)

abbrev pub decreases-loop-at : goal.decreases-loop-at
decreases-loop-at l = l.n - l.r
