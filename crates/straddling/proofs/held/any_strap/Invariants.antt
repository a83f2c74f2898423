-- `straddling::held::any_strap` meets its contract: no edge before the next that holds x holds both (`Seeking` of proofs/HeldLaws.antt). Assumes nothing.
use Rattle.links.proofs.Walked.{still_left}
use Rattle.straddling.proofs.HeldLaws.{Seeking, seeking_start, seeking_within, seeking_holds, seeking_found, seeking_more, seeking_less, seeking_done, edge_link, strap_only}
use Rattle.straddling.specs.Tests.{strap_holds_of}
use Rattle.columns.specs.Block.{cell}
use mathlib.Core.Path.{sym, ◌∙◌}
use native.Mathlib.Omega.{arith}
use Prim.Native.Nat.{◌/◌}
use lib.ListN.{length}
use Rattle.straddling.proofs.held.any_strap.Given as goal

-- `straddling::held::any_strap` meets its contract: no edge before the next that holds x holds both (`Seeking` of proofs/HeldLaws.antt). Assumes nothing.
abbrev pub invariant-loop-at : goal.invariant-loop-at
invariant-loop-at l = Seeking 2 l.e (cell 0 (length l.ends / 4) l.ends) l.x (strap_holds_of l.x l.y l.ends) l.at

abbrev pub decreases-loop-at : goal.decreases-loop-at
decreases-loop-at l = still_left l.e l.at
