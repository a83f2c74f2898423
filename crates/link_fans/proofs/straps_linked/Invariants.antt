-- `link_fans::straps_linked` meets its contract: the invariant is the cells found, and the straps among them in the tables (`Fanning` of proofs/Fanned.antt). Assumes nothing.
use Prim.Native.Nat.{◌/◌}
use native.Mathlib.Omega.{arith}
use mathlib.Core.Path.{refl}
use mathlib.Core.Logic.{⊎_elim}
use lib.ListN.{length, length-set}
use Rattle.columns.specs.Block.{cell}
use Rattle.links.proofs.Walked.{still_left}
use Rattle.link_fans.proofs.Fanned.{Fanning, straps_of, rows_two, fanning_start, fanning_within, fanning_few, fanning_link, fanning_less, strap_put, strap_full, strap_skip, straps_put}
use Rattle.link_fans.proofs.straps_linked.Given as goal

-- `link_fans::straps_linked` meets its contract: the invariant is the cells found, and the straps among them in the tables (`Fanning` of proofs/Fanned.antt). Assumes nothing.
abbrev pub invariant-loop-at : goal.invariant-loop-at
invariant-loop-at l =
    Fanning 2 l.e (cell 0 (length l.ends / 4) l.ends) l.v (straps_of l.ends l.lengths) l.r l.at l.initial.numbers l.initial.verts l.initial.measures l.numbers l.verts l.measures

abbrev pub decreases-loop-at : goal.decreases-loop-at
decreases-loop-at l = still_left l.e l.at
