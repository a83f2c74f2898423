-- `boundary::facets::open_row` meets its contract: the loop over the later parts is `Facing` of proofs/FacetLaws.antt. Assumes nothing.
use lib.ListN.{length}
use Rattle.links.specs.Linked.{SidesLinked}
use Prim.Native.Nat.{◌+◌}
use borrow.Author.Rules.{rules}
use Rattle.boundary.proofs.FacetLaws.{Facing, facing_start, facing_step, facing_lacks, facing_done, row_left, row_all, row_cut, row_end, linked_rows}
use Rattle.boundary.specs.Faces.{row_facets, pair_facets}
use mathlib.Core.Path.{◌∙◌, ◌≡◌, refl}
use native.Mathlib.Omega.{arith}
use Prim.Native.Nat.{◌-◌, ◌≤◌, ◌<◌}
use Rattle.boundary.proofs.facets.open_row.Given as goal

-- `boundary::facets::open_row` meets its contract: the loop over the later parts is `Facing` of proofs/FacetLaws.antt. Assumes nothing.
abbrev pub invariant-loop-j : goal.invariant-loop-j
invariant-loop-j l =
    (l.j ≤ l.n) × Facing l.v l.before l.n l.count l.room l.numbers l.verts l.groups l.corners (row_facets l.i) (row_left l.i l.j) l.m l.initial.outline l.outline l.rows × SidesLinked l.rows l.outline l.table × (length l.table ≡ length l.initial.table)

abbrev pub decreases-loop-j : goal.decreases-loop-j
decreases-loop-j l =
    l.n - l.j
