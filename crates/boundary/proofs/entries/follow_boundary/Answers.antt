-- `boundary::entries::follow_boundary` meets its contract: the loop over the entries at v is `Following` of proofs/BoundaryLaws.antt, where the next entry of the list comes next, with the table of the entries so far. Assumes nothing.
use Rattle.boundary.proofs.BoundaryLaws.{Following, stop_at, list_room, walk_head, walk_start, walk_done, walk_room, walk_on}
use Rattle.links.specs.Linked.{SidesLinked}
use mathlib.Core.Path.{◌≡◌, refl, ◌∙◌}
use lib.ListN.{length}
use Prim.Native.Nat.{◌-◌, ◌≤◌}
use native.Mathlib.Omega.{arith}
use Rattle.boundary.proofs.entries.follow_boundary.Goals as goal

pub cells_at-named-requires : goal.cells_at-named-requires
cells_at-named-requires c = list_room c.requires.1 (walk_head c.requires.0) c.requires.2

pub loop-q-init : goal.loop-q-init
loop-q-init c = (walk_start c.requires.0, c.requires.1, refl, omega arith)

pub follow_entry-requires : goal.follow_entry-requires
follow_entry-requires c = walk_room c.requires.0 c.cells_at-named.ensures (omega (arith, c.cells_at-named.auto.list, c.requires.2)) c.loop-q.invariant.0 c.loop-q-test.true c.loop-q.invariant.1

pub loop-q-preserved : goal.loop-q-preserved
loop-q-preserved c = (
  walk_on c.requires.0 c.cells_at-named.ensures (omega (arith, c.cells_at-named.auto.list, c.requires.2)) c.loop-q.invariant.0 c.loop-q-test.true c.follow_entry.ensures.0 c.follow_entry.auto.outline,
  c.follow_entry.ensures.1,
  c.follow_entry.auto.table ∙ c.loop-q.invariant.2,
  omega (arith, c.loop-q-test.true),
)

pub shape_of-outline : goal.shape_of-outline
shape_of-outline c = c.loop-q.invariant.0.long

pub shape_of-table : goal.shape_of-table
shape_of-table c = c.loop-q.invariant.2

pub shape_of-list : goal.shape_of-list
shape_of-list c = c.cells_at-named.auto.list

pub returns : goal.returns
returns c = (walk_done c.requires.0 c.cells_at-named.ensures (omega (arith, c.cells_at-named.auto.list, c.requires.2)) c.loop-q.invariant.0 c.loop-q-test.false c.loop-q.invariant.3, c.loop-q.invariant.1)
