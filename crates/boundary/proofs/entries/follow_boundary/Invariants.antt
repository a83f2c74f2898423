-- `boundary::entries::follow_boundary` meets its contract: the loop over the entries at v is `Following` of proofs/BoundaryLaws.antt, where the next entry of the list comes next, with the table of the entries so far. Assumes nothing.
use Rattle.boundary.proofs.BoundaryLaws.{Following, stop_at, list_room, walk_head, walk_start, walk_done, walk_room, walk_on}
use Rattle.links.specs.Linked.{SidesLinked}
use mathlib.Core.Path.{◌≡◌, refl, ◌∙◌}
use lib.ListN.{length}
use Prim.Native.Nat.{◌-◌, ◌≤◌}
use native.Mathlib.Omega.{arith}
use Rattle.boundary.proofs.entries.follow_boundary.Given as goal

-- `boundary::entries::follow_boundary` meets its contract: the loop over the entries at v is `Following` of proofs/BoundaryLaws.antt, where the next entry of the list comes next, with the table of the entries so far. Assumes nothing.
abbrev pub invariant-loop-q : goal.invariant-loop-q
invariant-loop-q l =
    Following l.v l.before l.k l.n l.count l.p l.b l.verts l.groups l.points l.initial.outline l.outline (stop_at l.v l.b l.initial.outline l.q) × SidesLinked l.b l.outline l.table × (length l.table ≡ length l.initial.table) × (l.q ≤ l.named)

abbrev pub decreases-loop-q : goal.decreases-loop-q
decreases-loop-q l =
    l.named - l.q
