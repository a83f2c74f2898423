-- `strap_cut::segments::split_snapped` meets its contract: where none is marked nothing is done, and else each in turn over tables built for all of them. Assumes nothing.
use native.Mathlib.Omega.{arith}
use Rattle.links.proofs.Parts.{cleared_fresh}
use Rattle.model.specs.Elements.{Straps}
use Rattle.mesh.specs.Log.{world_at}
use Rattle.split.proofs.LinkLaws.{linkable_ready}
use Rattle.cut.specs.declared.facets.Parting.TheVariants.{Snapped}
use Rattle.cut.proofs.RunLaws.{run_idle}
use Rattle.cut.proofs.CutLaws.{snapped_work}
use borrow.Author.Rules.{rules}
use Rattle.strap_cut.proofs.segments.split_snapped.Goals as goal

-- `strap_cut::segments::split_snapped` meets its contract: where none is marked nothing is done, and else each in turn over tables built for all of them. Assumes nothing.
pub next_marked-requires : goal.next_marked-requires
next_marked-requires c = let P = c.requires in (omega arith, omega (arith, P.1.long))

pub returns-then-next_marked-p : goal.returns-then-next_marked-p
returns-then-next_marked-p c = let A = c.args in let P = c.requires in let N = c.next_marked.ensures in
    snapped_work A.b0 A.b1 _ (run_idle (Snapped A.b0 A.b1) Straps A.room A.marks.now {at = (λ q. world_at q A.points.now A.roots.now A.corners.now A.volumes.now A.ends.now A.lengths.now A.outline.now A.log.now)} A.k P.0.counts A.p (λ v l. N.none v (omega arith) (omega (arith, c.if-next_marked-p.true))))

pub link_mesh-requires : goal.link_mesh-requires
link_mesh-requires c = let A = c.args in let P = c.requires in (linkable_ready Straps A.room A.k A.points.now A.roots.now A.corners.now A.volumes.now A.ends.now A.lengths.now A.outline.now A.log.now P.0 _ (omega arith), cleared_fresh 14336)

pub split_marked-requires : goal.split_marked-requires
split_marked-requires c = let P = c.requires in (P.0, P.1, P.2, c.link_mesh.ensures)

pub shape_of-points : goal.shape_of-points
shape_of-points c = c.split_marked.auto.points

pub shape_of-roots : goal.shape_of-roots
shape_of-roots c = c.split_marked.auto.roots

pub shape_of-corners : goal.shape_of-corners
shape_of-corners c = c.split_marked.auto.corners

pub shape_of-ends : goal.shape_of-ends
shape_of-ends c = c.split_marked.auto.ends

pub shape_of-lengths : goal.shape_of-lengths
shape_of-lengths c = c.split_marked.auto.lengths

pub shape_of-outline : goal.shape_of-outline
shape_of-outline c = c.split_marked.auto.outline

pub shape_of-log : goal.shape_of-log
shape_of-log c = c.split_marked.auto.log

pub shape_of-list : goal.shape_of-list
shape_of-list c = c.split_marked.auto.list

pub returns : goal.returns
returns c = let A = c.args in snapped_work A.b0 A.b1 _ c.split_marked.ensures.0
