-- `split::step::split_fan` meets its contract: the fan of v, read from tables of its own and split by its sides. Assumes nothing.
use native.Mathlib.Omega.{arith}
use Rattle.links.proofs.Parts.{cleared_fresh}
use Rattle.elements.specs.Table.{kind_is}
use mathlib.Core.Path.{◌∙◌}
use lib.ListN.{length-set}
use borrow.Author.Tests.{not-true}
use Rattle.split.proofs.TabledLaws.{given_in, given_pinned, parts_none}
use Rattle.split.proofs.Fitted.{corners_few}
use Rattle.split.proofs.LinkLaws.{linkable_ready}
use borrow.Author.Rules.{rules}
use mathlib.Core.Path.{ap}
use mathlib.Core.Bool.{not}
use Rattle.split.proofs.step.split_fan.Goals as goal

pub is_free-requires : goal.is_free-requires
is_free-requires c = let P = c.requires in let A = c.args in omega (arith, given_in (kind_is A.kind) A.room A.k A.points.now A.roots.now A.corners.now A.volumes.now A.ends.now A.lengths.now A.outline.now A.log.now P.0 P.1, P.0.counts.particles, P.0.rooms.points)

pub returns-then-not-is_free : goal.returns-then-not-is_free
returns-then-not-is_free c = let P = c.requires in let A = c.args in parts_none A.room A.k A.points.now A.roots.now A.corners.now A.volumes.now A.ends.now A.lengths.now A.outline.now A.log.now P.0 _ A.list.now P.2 (given_pinned (kind_is A.kind) A.room A.k A.points.now A.roots.now A.corners.now A.volumes.now A.ends.now A.lengths.now A.outline.now A.log.now P.0 P.1 _ c.is_free.ensures (not-true _ (ap not c.if-not-is_free.true)))

pub link_mesh-requires : goal.link_mesh-requires
link_mesh-requires c = let P = c.requires in let A = c.args in (linkable_ready (kind_is A.kind) A.room A.k A.points.now A.roots.now A.corners.now A.volumes.now A.ends.now A.lengths.now A.outline.now A.log.now P.0 _ (omega arith), cleared_fresh 14336)

pub split_in-requires : goal.split_in-requires
split_in-requires c = let P = c.requires in
    (P.0, P.1, omega (arith, length-set c.args.list.now 2048 0, P.2), c.link_mesh.ensures, omega arith, omega arith, λ h. c.if-sides-le-FEW.true, λ h. corners_few _ _ c.if-sides-le-FEW.true)

pub shape_of-points-then-sides-le-FEW : goal.shape_of-points-then-sides-le-FEW
shape_of-points-then-sides-le-FEW c = c.split_in.auto.points

pub shape_of-roots-then-sides-le-FEW : goal.shape_of-roots-then-sides-le-FEW
shape_of-roots-then-sides-le-FEW c = c.split_in.auto.roots

pub shape_of-corners-then-sides-le-FEW : goal.shape_of-corners-then-sides-le-FEW
shape_of-corners-then-sides-le-FEW c = c.split_in.auto.corners

pub shape_of-ends-then-sides-le-FEW : goal.shape_of-ends-then-sides-le-FEW
shape_of-ends-then-sides-le-FEW c = c.split_in.auto.ends

pub shape_of-lengths-then-sides-le-FEW : goal.shape_of-lengths-then-sides-le-FEW
shape_of-lengths-then-sides-le-FEW c = c.split_in.auto.lengths

pub shape_of-outline-then-sides-le-FEW : goal.shape_of-outline-then-sides-le-FEW
shape_of-outline-then-sides-le-FEW c = c.split_in.auto.outline

pub shape_of-log-then-sides-le-FEW : goal.shape_of-log-then-sides-le-FEW
shape_of-log-then-sides-le-FEW c = c.split_in.auto.log

pub shape_of-list-then-sides-le-FEW : goal.shape_of-list-then-sides-le-FEW
shape_of-list-then-sides-le-FEW c = c.split_in.auto.list ∙ length-set c.args.list.now 2048 0

pub returns-then-sides-le-FEW : goal.returns-then-sides-le-FEW
returns-then-sides-le-FEW c = c.split_in.ensures

pub split_in-requires-2 : goal.split_in-requires-2
split_in-requires-2 c = let P = c.requires in
    (P.0, P.1, omega (arith, length-set c.args.list.now 2048 0, P.2), c.link_mesh.ensures, omega arith, omega arith, λ h. h, λ h. h)

pub shape_of-points : goal.shape_of-points
shape_of-points c = c.split_in-2.auto.points

pub shape_of-roots : goal.shape_of-roots
shape_of-roots c = c.split_in-2.auto.roots

pub shape_of-corners : goal.shape_of-corners
shape_of-corners c = c.split_in-2.auto.corners

pub shape_of-ends : goal.shape_of-ends
shape_of-ends c = c.split_in-2.auto.ends

pub shape_of-lengths : goal.shape_of-lengths
shape_of-lengths c = c.split_in-2.auto.lengths

pub shape_of-outline : goal.shape_of-outline
shape_of-outline c = c.split_in-2.auto.outline

pub shape_of-log : goal.shape_of-log
shape_of-log c = c.split_in-2.auto.log

pub shape_of-list : goal.shape_of-list
shape_of-list c = c.split_in-2.auto.list ∙ length-set c.args.list.now 2048 0

pub returns : goal.returns
returns c = c.split_in-2.ensures
