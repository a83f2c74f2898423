-- `split::step::split_tabled` meets its contract: the groups of the fan, and the step where v splits. Assumes nothing.
use native.Mathlib.Omega.{arith}
use mathlib.Core.Path.{◌∙◌}
use lib.ListN.{set, length-set}
use Rattle.elements.specs.Table.{kind_is}
use Rattle.edge_drops.proofs.PartedLaws.{cleared}
use Rattle.split.proofs.LinkLaws.{none_linked}
use Rattle.split.proofs.TabledLaws.{sides_asked, fan_grouped, inverse_place, parts_none, few_stays, pinned_stays, split_works}
use borrow.Author.Rules.{rules}
use Rattle.split.proofs.step.split_tabled.Goals as goal

pub group_fan-count-requires : goal.group_fan-count-requires
group_fan-count-requires c = sides_asked c.requires.1 _ c.requires.2

pub shape_of-groups-then-count-lt2 : goal.shape_of-groups-then-count-lt2
shape_of-groups-then-count-lt2 c = c.group_fan-count.auto.groups

pub returns-then-count-lt2 : goal.returns-then-count-lt2
returns-then-count-lt2 c = let P = c.requires in let A = c.args in let N = parts_none A.room A.k A.points.now A.roots.now A.corners.now A.volumes.now A.ends.now A.lengths.now A.outline.now A.log.now P.0 _ A.list.now P.3 (few_stays (kind_is A.kind) A.room A.k A.points.now A.roots.now A.corners.now A.volumes.now A.ends.now A.lengths.now A.outline.now A.log.now P.0 P.1 c.group_fan-count.ensures c.if-count-lt2.true) in (N, none_linked A.k.edges (set A.list.now 2048 0) (cleared A.list.now P.3) P.4)

pub is_free-requires : goal.is_free-requires
is_free-requires c = let P = c.requires in let A = c.args in inverse_place (kind_is A.kind) A.room A.k A.points.now A.roots.now A.corners.now A.volumes.now A.ends.now A.lengths.now A.outline.now A.log.now P.0 P.1

pub split_opened-requires : goal.split_opened-requires
split_opened-requires c = let P = c.requires in let A = c.args in (P.0, fan_grouped P.1 c.group_fan-count.ensures (omega (arith, c.if-count-lt2.false)) (omega (arith, P.2, c.group_fan-count.auto.groups)), omega arith, omega (arith, length-set A.list.now 2048 0, P.3), P.4)

pub shape_of-groups-then-is_free : goal.shape_of-groups-then-is_free
shape_of-groups-then-is_free c = c.group_fan-count.auto.groups

pub shape_of-points-then-is_free : goal.shape_of-points-then-is_free
shape_of-points-then-is_free c = c.split_opened.auto.points

pub shape_of-roots-then-is_free : goal.shape_of-roots-then-is_free
shape_of-roots-then-is_free c = c.split_opened.auto.roots

pub shape_of-corners-then-is_free : goal.shape_of-corners-then-is_free
shape_of-corners-then-is_free c = c.split_opened.auto.corners

pub shape_of-ends-then-is_free : goal.shape_of-ends-then-is_free
shape_of-ends-then-is_free c = c.split_opened.auto.ends

pub shape_of-lengths-then-is_free : goal.shape_of-lengths-then-is_free
shape_of-lengths-then-is_free c = c.split_opened.auto.lengths

pub shape_of-outline-then-is_free : goal.shape_of-outline-then-is_free
shape_of-outline-then-is_free c = c.split_opened.auto.outline

pub shape_of-log-then-is_free : goal.shape_of-log-then-is_free
shape_of-log-then-is_free c = c.split_opened.auto.log

pub shape_of-list-then-is_free : goal.shape_of-list-then-is_free
shape_of-list-then-is_free c = c.split_opened.auto.list ∙ length-set c.args.list.now 2048 0

pub shape_of-links-then-is_free : goal.shape_of-links-then-is_free
shape_of-links-then-is_free c = c.split_opened.auto.links

pub returns-then-is_free : goal.returns-then-is_free
returns-then-is_free c = let P = c.requires in let A = c.args in ((split_works (kind_is A.kind) A.room A.k A.points.now A.roots.now A.corners.now A.volumes.now A.ends.now A.lengths.now A.outline.now A.log.now P.0 P.1 c.group_fan-count.ensures (omega (arith, c.if-count-lt2.false)) _ c.is_free.ensures c.if-is_free.true _ _ c.split_opened.ensures.0, c.split_opened.ensures.1.0), c.split_opened.ensures.1.1)

pub shape_of-groups : goal.shape_of-groups
shape_of-groups c = c.group_fan-count.auto.groups

pub returns : goal.returns
returns c = let P = c.requires in let A = c.args in let N = parts_none A.room A.k A.points.now A.roots.now A.corners.now A.volumes.now A.ends.now A.lengths.now A.outline.now A.log.now P.0 _ A.list.now P.3 (pinned_stays (kind_is A.kind) A.room A.k A.points.now A.roots.now A.corners.now A.volumes.now A.ends.now A.lengths.now A.outline.now A.log.now P.0 P.1 c.group_fan-count.ensures _ c.is_free.ensures c.if-is_free.false) in (N, none_linked A.k.edges (set A.list.now 2048 0) (cleared A.list.now P.3) P.4)
