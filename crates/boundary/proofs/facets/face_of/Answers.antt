-- `boundary::facets::face_of` meets its contract: the first face, for every opening and mesh that the tables hold. Assumes nothing.
use Rattle.boundary.proofs.FacetLaws.{face_found}
use native.Mathlib.Omega.{arith}
use borrow.Author.Rules.{rules}
use Rattle.boundary.proofs.facets.face_of.Goals as goal

pub first_face-requires : goal.first_face-requires
first_face-requires c = c.requires.4 _ c.requires.3

pub returns : goal.returns
returns c = let A = c.args in (face_found A.v A.before A.n A.count A.numbers.now A.verts.now A.groups.now A.corners.now A.i A.j A.r c.copy_number-copy.result c.first_face.result c.requires.1 c.requires.2 c.requires.3 c.copy_number-copy.ensures c.first_face.ensures.0, c.first_face.ensures.1)
