-- `tear::tried::way_opens` meets its contract: the table of all elements, and the walk through it. Assumes nothing.
use native.Mathlib.Omega.{arith}
use mathlib.Core.Path.{sym}
use lib.Seq.{length-take-le}
use borrow.Author.Rules.{rules}
use Rattle.elements.specs.Table.{kind_is}
use Rattle.tear.proofs.TriedLaws.{opens_lent, opens_told}
use Rattle.tear.proofs.tried.way_opens.Goals as goal

pub element_table-m-requires : goal.element_table-m-requires
element_table-m-requires c = let P = c.requires.0 in
    record { few = c.requires.0.few; corners = c.requires.0.corners; volumes = c.requires.0.volumes; ends = c.requires.0.ends; lengths = c.requires.0.lengths; numbers = (omega (arith, c.requires.0.few.0), omega (arith, c.requires.0.few.1)); verts = (omega (arith, c.requires.0.few.0), omega (arith, c.requires.0.few.1)); measures = (omega (arith, c.requires.0.few.0), omega (arith, c.requires.0.few.1)) }

pub slice_bounds-opens_without_confetti-end-2 : goal.slice_bounds-opens_without_confetti-end-2
slice_bounds-opens_without_confetti-end-2 c = sym (length-take-le _ _ c.requires.1.groups)

pub opens_without_confetti-requires : goal.opens_without_confetti-requires
opens_without_confetti-requires c = let P = c.requires in let A = c.args in let T = c.element_table-m in
    opens_lent (kind_is A.kind) A.k A.points.now A.roots.now A.corners.now A.volumes.now A.ends.now A.lengths.now A.outline.now A.v A.n _ _ _ _ _ A.groups.now P.0 P.1 T.ensures c.corners_per-per.ensures (omega (arith, T.auto.verts)) _ _ (omega arith) P.2

pub shape_of-queue : goal.shape_of-queue
shape_of-queue c = c.opens_without_confetti.auto.queue

pub returns : goal.returns
returns c = let P = c.requires in let A = c.args in
    opens_told (kind_is A.kind) A.k A.points.now A.roots.now A.corners.now A.volumes.now A.ends.now A.lengths.now A.outline.now A.v A.n _ _ _ _ _ A.groups.now P.0 P.1 c.element_table-m.ensures c.corners_per-per.ensures _ _ _ c.opens_without_confetti.ensures
