-- `boundary::facets::append_face` meets its contract: two stores put an entry behind the others. Assumes nothing.
use mathlib.Core.Path.{subst}
use Rattle.boundary.specs.Faces.{FaceApart}
use Rattle.boundary.proofs.FacetLaws.{append_none, append_lacks, append_one, face_room, face_linked}
use lib.ListN.{length-set}
use native.Mathlib.Omega.{arith}
use borrow.Author.Rules.{rules}
use Rattle.boundary.proofs.facets.append_face.Goals as goal

pub returns-in_default : goal.returns-in_default
returns-in_default c = (append_none _ _ _ _ c.requires.0.rows c.in_default.is, c.requires.1.linked)

pub returns-then-m-room : goal.returns-then-m-room
returns-then-m-room c = (append_lacks _ _ _ _ c.requires.0.rows _ _ c.in-Some.is c.if-m-room.true, tt)

pub bounds-outline-o : goal.bounds-outline-o
bounds-outline-o c = simp length-set (omega (arith, c.requires.0.rows, c.requires.0.columns, c.if-m-room.false))

pub append_cell-requires : goal.append_cell-requires
append_cell-requires c = face_room c.requires.1 c.requires.0 c.if-m-room.false _ _ (subst FaceApart c.in-Some.is c.requires.2)

pub shape_of-table : goal.shape_of-table
shape_of-table c = c.append_cell.auto.table

pub returns : goal.returns
returns c = (append_one _ _ _ _ c.requires.0.rows _ _ c.in-Some.is c.if-m-room.false c.requires.0.columns, face_linked c.requires.1 c.requires.0 c.if-m-room.false _ _ (subst FaceApart c.in-Some.is c.requires.2) c.append_cell.auto.table c.append_cell.ensures)
