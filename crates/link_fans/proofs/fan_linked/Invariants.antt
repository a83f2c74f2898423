-- `link_fans::fan_linked` meets its contract: the invariant is the cells found, as triangles in the tables (`Fanning` of proofs/Fanned.antt). Assumes nothing.
use Prim.Native.Nat.{◌/◌}
use native.Mathlib.Omega.{arith}
use mathlib.Core.Path.{refl}
use mathlib.Core.Logic.{⊎_elim}
use lib.ListN.{length, length-set}
use Rattle.columns.specs.Block.{cell}
use Rattle.links.proofs.Walked.{still_left}
use Rattle.link_fans.proofs.Fanned.{Fanning, triangles_of, rows_three, fanning_start, fanning_within, fanning_few, fanning_link, fanning_less, triangle_put, triangle_full, triangles_put}
use Rattle.link_fans.proofs.fan_linked.Given as goal

-- `link_fans::fan_linked` meets its contract: the invariant is the cells found, as triangles in the tables (`Fanning` of proofs/Fanned.antt). Assumes nothing.
abbrev pub invariant-loop-at : goal.invariant-loop-at
invariant-loop-at l =
    Fanning 3 l.t (cell 0 (length l.corners / 3) l.corners) l.v (triangles_of l.corners l.volumes) l.r l.at l.initial.numbers l.initial.verts l.initial.measures l.numbers l.verts l.measures

abbrev pub decreases-loop-at : goal.decreases-loop-at
decreases-loop-at l = still_left l.t l.at
