-- `rewire::linked::append_copies` meets its contract: the loop along the ring is `Growing` of proofs/EdgeLaws.antt, with the table of the rows so far. Assumes nothing.
use borrow.Author.Rules.{rules}
use Rattle.links.specs.Linked.{EdgesLinked}
use Rattle.rewire.specs.Edges.{EndsBelow}
use Rattle.rewire.proofs.EdgeLaws.{Growing, growing_start, growing_step, growing_lacks, growing_done}
use Rattle.rewire.proofs.LinkedLaws.{copy_below}
use Rattle.mesh.specs.Workers.{edge_of}
use lib.ListN.{length}
use mathlib.Core.Path.{◌≡◌, refl, ◌∙◌, sym, subst}
use native.Mathlib.Omega.{arith}
use Prim.Native.Nat.{◌-◌, ◌+◌, ◌≤◌}
use Rattle.rewire.proofs.linked.append_copies.Given as goal

-- `rewire::linked::append_copies` meets its contract: the loop along the ring is `Growing` of proofs/EdgeLaws.antt, with the table of the rows so far. Assumes nothing.
abbrev pub invariant-loop-g : goal.invariant-loop-g
invariant-loop-g l =
    Growing (edge_of l.row) l.x l.from l.v l.before l.k l.n l.count l.m l.room l.verts l.groups l.initial.ends l.ends l.initial.lengths l.lengths l.rows l.g × EdgesLinked l.rows l.ends l.table × (length l.table ≡ length l.initial.table)

abbrev pub decreases-loop-g : goal.decreases-loop-g
decreases-loop-g l =
    l.count - l.g
