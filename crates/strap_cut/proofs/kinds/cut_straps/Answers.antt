-- `strap_cut::kinds::cut_straps` meets its contract: the cut is done in the marks that are here and in the lent list. Assumes nothing.
use native.Mathlib.Omega.{arith}
use borrow.Author.Rules.{rules}
use Rattle.strap_cut.proofs.kinds.cut_straps.Goals as goal

pub cut_segments-requires : goal.cut_segments-requires
cut_segments-requires c = let P = c.requires in (P.0, P.1, omega arith, P.2)

pub shape_of-points : goal.shape_of-points
shape_of-points c = c.cut_segments.auto.points

pub shape_of-roots : goal.shape_of-roots
shape_of-roots c = c.cut_segments.auto.roots

pub shape_of-corners : goal.shape_of-corners
shape_of-corners c = c.cut_segments.auto.corners

pub shape_of-ends : goal.shape_of-ends
shape_of-ends c = c.cut_segments.auto.ends

pub shape_of-lengths : goal.shape_of-lengths
shape_of-lengths c = c.cut_segments.auto.lengths

pub shape_of-outline : goal.shape_of-outline
shape_of-outline c = c.cut_segments.auto.outline

pub shape_of-log : goal.shape_of-log
shape_of-log c = c.cut_segments.auto.log

pub shape_of-list : goal.shape_of-list
shape_of-list c = c.cut_segments.auto.bends

pub returns : goal.returns
returns c = c.cut_segments.ensures
