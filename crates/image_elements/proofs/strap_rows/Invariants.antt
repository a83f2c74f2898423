-- `image_elements::strap_rows` meets its contract: the invariant is the table of the straps among the edges that were passed. The laws are in proofs/Rows.antt.
use Prim.Native.Nat.{◌-◌, ◌≤◌}
use native.Mathlib.Omega.{arith}
use mathlib.Core.Logic.{⊎_elim}
use lib.ListN.{length-set}
use Rattle.elements.proofs.Filling.{strapping_start, strapping_done}
use Rattle.image_elements.proofs.Rows.{StrapRows, strap_skipped, strap_row}
use Rattle.image_elements.proofs.strap_rows.Given as goal

-- `image_elements::strap_rows` meets its contract: the invariant is the table of the straps among the edges that were passed. The laws are in proofs/Rows.antt.
abbrev pub invariant-loop-i : goal.invariant-loop-i
invariant-loop-i l = StrapRows l.bytes l.at l.e l.i l.n l.o l.initial.numbers l.initial.verts l.initial.measures l.numbers l.verts l.measures × (l.i ≤ l.e)
