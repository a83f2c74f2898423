-- `insert::shares::total_at` meets its contract: the sum of the first edges is known at each edge that the walk comes to (proofs/Walks.antt). Assumes nothing.
use native.Mathlib.Omega.{arith}
use mathlib.Core.Path.{◌≡◌, sym, ◌∙◌}
use mathlib.Core.Logic.{⊎_elim}
use lib.Ieee.{of_bits}
use Rattle.mesh.specs.At.{edges_at}
use Rattle.links.proofs.Walked.{still_left}
use Rattle.insert.specs.Shares.{total_at_of}
use Rattle.insert.proofs.Walks.{Walk, walk_head, walk_start, walk_within, walk_holds, walk_row, walk_link, walk_here, walk_more, walk_less, walk_done}
use Rattle.insert.proofs.ShareLaws.{total_none, total_skip, total_taken, total_left}
use Rattle.insert.proofs.shares.total_at.Given as goal

-- `insert::shares::total_at` meets its contract: the sum of the first edges is known at each edge that the walk comes to (proofs/Walks.antt). Assumes nothing.
abbrev pub invariant-loop-at : goal.invariant-loop-at
invariant-loop-at l = Walk l.e l.ends l.v (λ j. l.s ≡ total_at_of l.v (edges_at j l.ends l.lengths)) l.at

abbrev pub decreases-loop-at : goal.decreases-loop-at
decreases-loop-at l = still_left l.e l.at
