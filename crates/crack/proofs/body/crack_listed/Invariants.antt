-- `crack::body::crack_listed` meets its contract: the loop over the list is `ListedTo` of proofs/ListedLaws.antt, and the tables are those of the blocks. Assumes nothing.
use Prim.Native.Nat.{◌-◌}
use mathlib.Core.Path.{◌≡◌}
use lib.ListN.{length}
use Rattle.elements.specs.Table.{kind_is}
use Rattle.links.specs.Linked.{MeshLinked}
use Rattle.crack.proofs.ListedLaws.{ListedTo}
use Rattle.crack.proofs.body.crack_listed.Given as goal

-- `crack::body::crack_listed` meets its contract: the loop over the list is `ListedTo` of proofs/ListedLaws.antt, and the tables are those of the blocks. Assumes nothing.
abbrev pub invariant-loop-i : goal.invariant-loop-i
invariant-loop-i l = ListedTo (kind_is l.kind) l.minimum l.torn l.e l.from l.to l.loads l.room l.initial.counts l.initial.points l.initial.roots l.initial.corners l.volumes l.initial.ends l.initial.lengths l.initial.outline l.initial.log l.points l.roots l.corners l.ends l.lengths l.outline l.log l.counts l.i × MeshLinked (kind_is l.kind) l.counts.triangles l.counts.edges l.counts.boundary l.corners l.ends l.outline l.links × (length l.links ≡ length l.initial.links)

abbrev pub decreases-loop-i : goal.decreases-loop-i
decreases-loop-i l = length l.torn - l.i
