-- `cut::facets::split_marked` meets its contract. The invariant: the marked particles so far are split, no step lacked room, the tables of links are those of the blocks, and the list is as long as ever. Assumes nothing.
use Rattle.cut.proofs.RunLaws.{split_to, run_none, run_skip, run_next, run_end, run_all, ready_at, grown_at, entries_at, words_at}
use Rattle.split.proofs.LinkLaws.{linked_done}
use Rattle.links.specs.Linked.{MeshLinked}
use Rattle.work.proofs.Placed.{particles_count}
use Rattle.work.specs.Working.{Works}
use Rattle.elements.specs.Table.{kind_is}
use Rattle.mesh.proofs.Agree.{lent_path}
use Rattle.mesh.specs.Log.{world_at}
use Rattle.mesh.specs.Filled.{lent}
use Rattle.mesh.specs.Given.{Lent}
use Prim.Native.Nat.{◌≤◌, ◌-◌}
use mathlib.Core.Path.{◌≡◌, refl, ◌∙◌, ap}
use lib.ListN.{length}
use borrow.Author.Rules.{rules}
use native.Mathlib.Omega.{arith}
use Rattle.cut.proofs.facets.split_marked.Given as goal
use Rattle.std.specs.Prelude.{Ok}

-- `cut::facets::split_marked` meets its contract. The invariant: the marked particles so far are split, no step lacked room, the tables of links are those of the blocks, and the list is as long as ever. Assumes nothing.
abbrev pub invariant-loop-v : goal.invariant-loop-v
invariant-loop-v l = (l.v ≤ l.p) × (lent l.points l.roots l.corners l.volumes l.ends l.lengths l.outline l.log ≡ lent l.initial.points l.initial.roots l.initial.corners l.volumes l.initial.ends l.initial.lengths l.initial.outline l.initial.log) × Works (split_to l.way (kind_is l.kind) l.room l.marks l.v) l.room (world_at l.initial.counts l.initial.points l.initial.roots l.initial.corners l.volumes l.initial.ends l.initial.lengths l.initial.outline l.initial.log) (λ q. world_at q l.points l.roots l.corners l.volumes l.ends l.lengths l.outline l.log) (Ok l.counts) × (length l.list ≡ length l.initial.list) × (length l.links ≡ length l.initial.links) × MeshLinked (kind_is l.kind) l.counts.triangles l.counts.edges l.counts.boundary l.corners l.ends l.outline l.links
