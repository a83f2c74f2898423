-- `boundary::facets::crack_facets` meets its contract: the loop over the parts is `Facing` of proofs/FacetLaws.antt. Assumes nothing.
use lib.ListN.{length}
use Rattle.links.specs.Linked.{SidesLinked}
use Rattle.boundary.proofs.FacetLaws.{Facing, facing_start, facing_step, facing_lacks, facing_done, all_left, all_start, all_cut, all_end, linked_rows}
use Rattle.boundary.specs.Faces.{row_facets, all_facets}
use mathlib.Core.Path.{◌∙◌, ◌≡◌, refl}
use native.Mathlib.Omega.{arith}
use Prim.Native.Nat.{◌-◌, ◌≤◌, ◌<◌}
use Prim.Native.Nat.{◌+◌}
use borrow.Author.Rules.{rules}
use Rattle.boundary.proofs.facets.crack_facets.Given as goal

-- `boundary::facets::crack_facets` meets its contract: the loop over the parts is `Facing` of proofs/FacetLaws.antt. Assumes nothing.
abbrev pub invariant-loop-i : goal.invariant-loop-i
invariant-loop-i l =
    (l.i ≤ l.n) × Facing l.v l.before l.n l.count l.room l.numbers l.verts l.groups l.corners all_facets (all_left l.i) l.b l.initial.outline l.outline l.rows × SidesLinked l.rows l.outline l.table × (length l.table ≡ length l.initial.table)

abbrev pub decreases-loop-i : goal.decreases-loop-i
decreases-loop-i l =
    l.n - l.i
