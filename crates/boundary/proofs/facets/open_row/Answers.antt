-- `boundary::facets::open_row` meets its contract: the loop over the later parts is `Facing` of proofs/FacetLaws.antt. Assumes nothing.
use lib.ListN.{length}
use Rattle.links.specs.Linked.{SidesLinked}
use Prim.Native.Nat.{◌+◌}
use borrow.Author.Rules.{rules}
use Rattle.boundary.proofs.FacetLaws.{Facing, facing_start, facing_step, facing_lacks, facing_done, row_left, row_all, row_cut, row_end, linked_rows}
use Rattle.boundary.specs.Faces.{row_facets, pair_facets}
use mathlib.Core.Path.{◌∙◌, ◌≡◌, refl}
use native.Mathlib.Omega.{arith}
use Prim.Native.Nat.{◌-◌, ◌≤◌, ◌<◌}
use Rattle.boundary.proofs.facets.open_row.Goals as goal

pub loop-j-init : goal.loop-j-init
loop-j-init c = (omega (arith, c.requires.2), facing_start _ _ _ _ _ _ _ _ _ _ _ _ _ c.requires.1.rows (λ O M t B F. row_all _ O M), c.requires.4.linked, refl)

pub open_pair-requires : goal.open_pair-requires
open_pair-requires c = (c.requires.0, record { rows = c.loop-j.invariant.1.most; columns = omega (arith, c.requires.1.columns, c.loop-j.invariant.1.long) }, c.requires.2, c.loop-j-test.true, c.requires.3, record { linked = c.loop-j.invariant.2; few = c.requires.4.few })

pub shape_of-outline-in_err-rows : goal.shape_of-outline-in_err-rows
shape_of-outline-in_err-rows c = c.open_pair.auto.outline ∙ c.loop-j.invariant.1.long

pub shape_of-table-in_err-rows : goal.shape_of-table-in_err-rows
shape_of-table-in_err-rows c = c.open_pair.auto.table ∙ c.loop-j.invariant.3

pub returns-in_err-rows : goal.returns-in_err-rows
returns-in_err-rows c = let A = c.args in
    let l = c.loop-j-test.true in
    rw c.from_residual.ensures (facing_lacks _ _ _ _ _ _ _ _ _ _ _ _ _ _ _ c.loop-j.invariant.1 (pair_facets A.i c.loop-j.j) (row_left A.i (c.loop-j.j + 1)) (λ O M t B F. row_cut A.i c.loop-j.j A.n O M F.ringed.size l) _ c.open_pair.result c.open_pair.ensures.0 c.in_err-rows.was, tt)

pub loop-j-preserved : goal.loop-j-preserved
loop-j-preserved c = let A = c.args in
    let l = c.loop-j-test.true in
    (omega (arith, c.loop-j-test.true), facing_step _ _ _ _ _ _ _ _ _ _ _ _ _ _ _ c.loop-j.invariant.1 (pair_facets A.i c.loop-j.j) (row_left A.i (c.loop-j.j + 1)) (λ O M t B F. row_cut A.i c.loop-j.j A.n O M F.ringed.size l) _ c.open_pair.result c.open_pair.ensures.0 _ c.in_ok-rows.was c.open_pair.auto.outline, linked_rows c.in_ok-rows.was c.open_pair.ensures.1, c.open_pair.auto.table ∙ c.loop-j.invariant.3)

pub shape_of-outline : goal.shape_of-outline
shape_of-outline c = c.loop-j.invariant.1.long

pub shape_of-table : goal.shape_of-table
shape_of-table c = c.loop-j.invariant.3

pub returns : goal.returns
returns c = (facing_done _ _ _ _ _ _ _ _ _ _ _ _ _ _ _ c.loop-j.invariant.1 (λ O M t B F. row_end _ _ _ O M F.ringed.size c.loop-j-test.false), c.loop-j.invariant.2)
