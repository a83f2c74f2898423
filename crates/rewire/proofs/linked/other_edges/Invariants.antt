-- `rewire::linked::other_edges` meets its contract: the loop over the edges at v is `Passing` of proofs/EdgeLaws.antt, where the next edge of the list comes next (proofs/LinkedLaws.antt), with the table of the rows so far. Assumes nothing.
use Rattle.links.specs.Linked.{EdgesLinked}
use Rattle.rewire.proofs.EdgeLaws.{Passing, passing_lacks, passing_done}
use Rattle.rewire.proofs.LinkedLaws.{stop_at, list_room, walk_start, walk_here, walk_inside, walk_room, walk_on, walk_done, linked_rows}
use Rattle.elements.specs.Table.{kind_is}
use lib.ListN.{length}
use mathlib.Core.Path.{◌≡◌, refl, sym, ◌∙◌}
use native.Mathlib.Omega.{arith}
use Prim.Native.Nat.{◌-◌, ◌≤◌}
use borrow.Author.Rules.{rules}
use Rattle.rewire.proofs.linked.other_edges.Given as goal

-- `rewire::linked::other_edges` meets its contract: the loop over the edges at v is `Passing` of proofs/EdgeLaws.antt, where the next edge of the list comes next (proofs/LinkedLaws.antt), with the table of the rows so far. Assumes nothing.
abbrev pub invariant-loop-q : goal.invariant-loop-q
invariant-loop-q l =
    Passing (kind_is l.kind) l.v l.before l.k l.n l.count l.p l.e l.room l.verts l.groups l.points l.initial.ends l.ends l.initial.lengths l.lengths l.rows (stop_at l.v l.e l.initial.ends l.q) × EdgesLinked l.rows l.ends l.table × (length l.table ≡ length l.initial.table) × (l.q ≤ l.named)

abbrev pub decreases-loop-q : goal.decreases-loop-q
decreases-loop-q l =
    l.named - l.q
