-- `boundary::facets::crack_facets` meets its contract: the loop over the parts is `Facing` of proofs/FacetLaws.antt. Assumes nothing.
use lib.ListN.{length}
use Rattle.links.specs.Linked.{SidesLinked}
use Rattle.boundary.proofs.FacetLaws.{Facing, facing_start, facing_step, facing_lacks, facing_done, all_left, all_start, all_cut, all_end, linked_rows}
use Rattle.boundary.specs.Faces.{row_facets, all_facets}
use mathlib.Core.Path.{◌∙◌, ◌≡◌, refl}
use native.Mathlib.Omega.{arith}
use Prim.Native.Nat.{◌-◌, ◌≤◌, ◌<◌}
use Prim.Native.Nat.{◌+◌}
use borrow.Author.Rules.{rules}
use Rattle.boundary.proofs.facets.crack_facets.Goals as goal

pub loop-i-init : goal.loop-i-init
loop-i-init c = (omega arith, facing_start _ _ _ _ _ _ _ _ _ _ _ _ _ c.requires.1.rows (λ O M t B F. all_start O M), c.requires.3.linked, refl)

pub open_row-requires : goal.open_row-requires
open_row-requires c = (c.requires.0, record { rows = c.loop-i.invariant.1.most; columns = omega (arith, c.requires.1.columns, c.loop-i.invariant.1.long) }, c.loop-i-test.true, c.requires.2, record { linked = c.loop-i.invariant.2; few = c.requires.3.few })

pub shape_of-outline-in_err-rows : goal.shape_of-outline-in_err-rows
shape_of-outline-in_err-rows c = c.open_row.auto.outline ∙ c.loop-i.invariant.1.long

pub shape_of-table-in_err-rows : goal.shape_of-table-in_err-rows
shape_of-table-in_err-rows c = c.open_row.auto.table ∙ c.loop-i.invariant.3

pub returns-in_err-rows : goal.returns-in_err-rows
returns-in_err-rows c = let A = c.args in
    let l = c.loop-i-test.true in
    rw c.from_residual.ensures (facing_lacks _ _ _ _ _ _ _ _ _ _ _ _ _ _ _ c.loop-i.invariant.1 (row_facets c.loop-i.i) (all_left (c.loop-i.i + 1)) (λ O M t B F. all_cut c.loop-i.i A.n O M F.ringed.size l) _ c.open_row.result c.open_row.ensures.0 c.in_err-rows.was, tt)

pub loop-i-preserved : goal.loop-i-preserved
loop-i-preserved c = let A = c.args in
    let l = c.loop-i-test.true in
    (omega (arith, c.loop-i-test.true), facing_step _ _ _ _ _ _ _ _ _ _ _ _ _ _ _ c.loop-i.invariant.1 (row_facets c.loop-i.i) (all_left (c.loop-i.i + 1)) (λ O M t B F. all_cut c.loop-i.i A.n O M F.ringed.size l) _ c.open_row.result c.open_row.ensures.0 _ c.in_ok-rows.was c.open_row.auto.outline, linked_rows c.in_ok-rows.was c.open_row.ensures.1, c.open_row.auto.table ∙ c.loop-i.invariant.3)

pub shape_of-outline : goal.shape_of-outline
shape_of-outline c = c.loop-i.invariant.1.long

pub shape_of-table : goal.shape_of-table
shape_of-table c = c.loop-i.invariant.3

pub returns : goal.returns
returns c = (facing_done _ _ _ _ _ _ _ _ _ _ _ _ _ _ _ c.loop-i.invariant.1 (λ O M t B F. all_end _ _ O M F.ringed.size c.loop-i-test.false), c.loop-i.invariant.2)
