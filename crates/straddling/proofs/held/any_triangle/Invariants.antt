-- `straddling::held::any_triangle` meets its contract: no triangle before the next that holds x holds both (`Seeking` of proofs/HeldLaws.antt). Assumes nothing.
use Rattle.links.proofs.Walked.{still_left}
use Rattle.straddling.proofs.HeldLaws.{Seeking, seeking_start, seeking_within, seeking_holds, seeking_found, seeking_more, seeking_less, seeking_done, triangle_link, triangle_rest, triangle_only}
use Rattle.straddling.specs.Tests.{triangle_holds}
use Rattle.columns.specs.Block.{cell}
use mathlib.Core.Path.{sym, ◌∙◌}
use native.Mathlib.Omega.{arith}
use Prim.Native.Nat.{◌/◌}
use lib.ListN.{length}
use Rattle.straddling.proofs.held.any_triangle.Given as goal

-- `straddling::held::any_triangle` meets its contract: no triangle before the next that holds x holds both (`Seeking` of proofs/HeldLaws.antt). Assumes nothing.
abbrev pub invariant-loop-at : goal.invariant-loop-at
invariant-loop-at l = Seeking 3 l.t (cell 0 (length l.corners / 3) l.corners) l.x (triangle_holds l.x l.y l.corners) l.at

abbrev pub decreases-loop-at : goal.decreases-loop-at
decreases-loop-at l = still_left l.t l.at
