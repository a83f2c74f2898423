-- `boundary::facets::open_pair` meets its contract: no crack opens, or two faces are appended. Assumes nothing.
use Rattle.boundary.proofs.FacetLaws.{pair_same, pair_far, pair_lacks, pair_open, linked_rows}
use Rattle.work.specs.Rows.{Between}
use mathlib.Core.Path.{◌∙◌, subst}
use native.Mathlib.Omega.{arith}
use borrow.Author.Rules.{rules}
use Rattle.boundary.proofs.facets.open_pair.Goals as goal

pub returns-then-groups-i : goal.returns-then-groups-i
returns-then-groups-i c = (pair_same _ _ _ _ _ _ _ _ _ _ _ _ c.requires.2 c.requires.3 _ c.requires.1.rows c.if-groups-i.true, c.requires.5.linked)

pub returns-then-shared_others-ne1 : goal.returns-then-shared_others-ne1
returns-then-shared_others-ne1 c = (pair_far _ _ _ _ _ _ _ _ _ _ _ _ c.requires.2 c.requires.3 _ c.requires.1.rows c.if-groups-i.false c.shared_others.result c.shared_others.ensures c.if-shared_others-ne1.true, c.requires.5.linked)

pub face_of-first-requires : goal.face_of-first-requires
face_of-first-requires c = (c.requires.0, c.requires.2, c.requires.3, c.requires.2, c.requires.4)

pub face_of-second-requires : goal.face_of-second-requires
face_of-second-requires c = (c.requires.0, c.requires.2, c.requires.3, c.requires.3, c.requires.4)

pub append_face-requires : goal.append_face-requires
append_face-requires c = (c.requires.1, c.requires.5, c.face_of-first.ensures.1)

pub shape_of-outline-in_err-rows : goal.shape_of-outline-in_err-rows
shape_of-outline-in_err-rows c = c.append_face.auto.outline

pub shape_of-table-in_err-rows : goal.shape_of-table-in_err-rows
shape_of-table-in_err-rows c = c.append_face.auto.table

pub returns-in_err-rows : goal.returns-in_err-rows
returns-in_err-rows c = rw c.from_residual.ensures (pair_lacks _ _ _ _ _ _ _ _ _ _ _ _ c.requires.2 c.requires.3 c.if-groups-i.false c.shared_others.result c.shared_others.ensures c.if-shared_others-ne1.false c.face_of-first.result c.face_of-second.result c.face_of-first.ensures.0 c.face_of-second.ensures.0 _ _ c.append_face.result c.append_face.ensures.0 c.requires.1.rows c.in_err-rows.was, tt)

pub append_face-requires-2 : goal.append_face-requires-2
append_face-requires-2 c = let b = subst (Between c.args.m c.args.room) c.in_ok-rows.was c.append_face.ensures.0.between in (
  record { rows = b.1; columns = omega (arith, c.requires.1.columns, c.append_face.auto.outline) },
  record { linked = linked_rows c.in_ok-rows.was c.append_face.ensures.1; few = c.requires.5.few },
  c.face_of-second.ensures.1,
)

pub shape_of-outline : goal.shape_of-outline
shape_of-outline c = c.append_face-2.auto.outline ∙ c.append_face.auto.outline

pub shape_of-table : goal.shape_of-table
shape_of-table c = c.append_face-2.auto.table ∙ c.append_face.auto.table

pub returns : goal.returns
returns c = (pair_open _ _ _ _ _ _ _ _ _ _ _ _ c.requires.2 c.requires.3 c.if-groups-i.false c.shared_others.result c.shared_others.ensures c.if-shared_others-ne1.false c.face_of-first.result c.face_of-second.result c.face_of-first.ensures.0 c.face_of-second.ensures.0 _ _ c.append_face.result c.append_face.ensures.0 c.requires.1.rows _ c.in_ok-rows.was c.append_face.auto.outline _ c.append_face-2.result c.append_face-2.ensures.0, c.append_face-2.ensures.1)
