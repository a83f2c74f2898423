-- `crossing::crossed::cross_all` meets its contract. The invariant: the crossings so far are done, no room lacked, the table is that of the edges, and the lent blocks are as long as they were. Assumes nothing.
use Rattle.crossing.proofs.CrossedRuns.{CrossedTo, on_start, on_room, on_number, on_step, on_stop, on_done}
use Rattle.mesh.proofs.Agree.{lent_path}
use Rattle.mesh.specs.Given.{Lent}
use Prim.Native.Nat.{◌-◌}
use mathlib.Core.Path.{◌≡◌, refl, ap, subst, ◌∙◌}
use lib.ListN.{length}
use Rattle.links.specs.Linked.{EdgesLinked}
use Rattle.insert.specs.Tables.{EdgesAfter}
use borrow.Author.Rules.{rules}
use native.Mathlib.Omega.{arith}
use Rattle.crossing.proofs.crossed.cross_all.Given as goal

-- `crossing::crossed::cross_all` meets its contract. The invariant: the crossings so far are done, no room lacked, the table is that of the edges, and the lent blocks are as long as they were. Assumes nothing.
abbrev pub invariant-loop-i : goal.invariant-loop-i
invariant-loop-i l =
    CrossedTo l.f l.m l.numbers l.ts l.room l.initial.counts l.initial.points l.initial.roots l.initial.ends l.initial.lengths l.initial.outline l.initial.log l.initial.bends l.initial.snapped l.points l.roots l.ends l.lengths l.outline l.log l.bends l.snapped l.counts l.i × EdgesLinked l.counts.edges l.ends l.table
    × (length l.table ≡ length l.initial.table)

abbrev pub decreases-loop-i : goal.decreases-loop-i
decreases-loop-i l =
    l.m - l.i
