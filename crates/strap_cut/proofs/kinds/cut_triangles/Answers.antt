-- `strap_cut::kinds::cut_triangles` meets its contract: the cut is done in the tables that are here, that of the links built. Assumes nothing.
use Rattle.links.proofs.Parts.{cleared_fresh}
use Rattle.split.proofs.LinkLaws.{linkable_ready}
use Rattle.model.specs.Elements.{Triangles}
use native.Mathlib.Omega.{arith}
use borrow.Author.Rules.{rules}
use Rattle.strap_cut.proofs.kinds.cut_triangles.Goals as goal

pub link_mesh-requires : goal.link_mesh-requires
link_mesh-requires c = let P = c.requires in (
  let A = c.args in
      linkable_ready Triangles A.room A.k A.points.now A.roots.now A.corners.now A.volumes.now A.ends.now A.lengths.now A.outline.now A.log.now P.0 _ (omega arith),
  cleared_fresh 14336,
)

pub cut_facets-requires : goal.cut_facets-requires
cut_facets-requires c = let P = c.requires in (P.0, P.1, omega arith, omega arith, c.link_mesh.ensures)

pub shape_of-points : goal.shape_of-points
shape_of-points c = c.cut_facets.auto.points

pub shape_of-roots : goal.shape_of-roots
shape_of-roots c = c.cut_facets.auto.roots

pub shape_of-corners : goal.shape_of-corners
shape_of-corners c = c.cut_facets.auto.corners

pub shape_of-ends : goal.shape_of-ends
shape_of-ends c = c.cut_facets.auto.ends

pub shape_of-lengths : goal.shape_of-lengths
shape_of-lengths c = c.cut_facets.auto.lengths

pub shape_of-outline : goal.shape_of-outline
shape_of-outline c = c.cut_facets.auto.outline

pub shape_of-log : goal.shape_of-log
shape_of-log c = c.cut_facets.auto.log

pub returns : goal.returns
returns c = c.cut_facets.ensures.0
