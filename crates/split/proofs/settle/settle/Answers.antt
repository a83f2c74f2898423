-- `split::settle::settle` meets its contract: what each part asks and tells is in proofs/SettleLaws.antt. Assumes nothing.
use Prim.Native.Nat.{◌-◌}
use lib.ListN.{length}
use mathlib.Core.Path.{◌∙◌}
use native.Mathlib.Omega.{arith}
use borrow.Rule.Slice.PartMut.{same_len_mid}
use Rattle.links.proofs.Parts.{front_of}
use Rattle.split.proofs.LinkLaws.{facets_lent, facets_back, parted_linked}
use Rattle.split.proofs.SettleLaws.{boundary_asked, refused_boundary, part_asked, settled_told, settled_listed}
use Rattle.elements.specs.Table.{kind_is}
use borrow.Author.Rules.{rules}
use Rattle.split.proofs.settle.settle.Goals as goal

pub open_boundary-grown-requires : goal.open_boundary-grown-requires
open_boundary-grown-requires c = let A = c.args in let P = c.requires in (boundary_asked (kind_is A.kind) A.room A.k A.v A.before A.n A.count A.extra A.numbers.now A.verts.now A.groups.now A.points.now A.corners.now A.volumes.now A.ends.now A.lengths.now A.outline.now A.log.now P.0, facets_lent P.2 P.0.room.few_boundary P.3, P.1)

pub shape_of-outline-in_default : goal.shape_of-outline-in_default
shape_of-outline-in_default c = c.open_boundary-grown.auto.outline

pub shape_of-list-in_default : goal.shape_of-list-in_default
shape_of-list-in_default c = c.open_boundary-grown.auto.list

pub shape_of-links-in_default : goal.shape_of-links-in_default
shape_of-links-in_default c = same_len_mid 9216 (length c.args.links.now - 9216) c.args.links.now c.open_boundary-grown.new.table c.open_boundary-grown.auto.table

pub returns-in_default : goal.returns-in_default
returns-in_default c = let A = c.args in let P = c.requires in (refused_boundary (kind_is A.kind) A.room A.k A.v A.before A.n A.count A.extra A.numbers.now A.verts.now A.groups.now A.points.now A.corners.now A.volumes.now A.ends.now A.lengths.now A.outline.now A.log.now P.0 _ _ c.open_boundary-grown.ensures.0 c.in_default.is _, tt, tt)

pub part_straddlers-requires : goal.part_straddlers-requires
part_straddlers-requires c = let A = c.args in let P = c.requires in let B = c.open_boundary-grown in (part_asked (kind_is A.kind) A.room A.k A.v A.before A.n A.count A.extra A.numbers.now A.verts.now A.groups.now A.points.now A.corners.now A.volumes.now A.ends.now A.lengths.now A.outline.now A.log.now P.0, omega (arith, P.1, B.auto.list), front_of (facets_back B.new.table P.2 B.auto.table c.in-Some.is B.ensures.1))

pub shape_of-outline : goal.shape_of-outline
shape_of-outline c = c.open_boundary-grown.auto.outline

pub shape_of-log : goal.shape_of-log
shape_of-log c = c.part_straddlers.auto.log

pub shape_of-list : goal.shape_of-list
shape_of-list c = c.part_straddlers.auto.list ∙ c.open_boundary-grown.auto.list

pub shape_of-links : goal.shape_of-links
shape_of-links c = same_len_mid 9216 (length c.args.links.now - 9216) c.args.links.now c.open_boundary-grown.new.table c.open_boundary-grown.auto.table

pub returns : goal.returns
returns c = let A = c.args in let P = c.requires in let B = c.open_boundary-grown in let D = c.part_straddlers in (settled_told (kind_is A.kind) A.room A.k A.v A.before A.n A.count A.extra A.numbers.now A.verts.now A.groups.now A.points.now A.corners.now A.volumes.now A.ends.now A.lengths.now A.outline.now A.log.now P.0 _ _ _ B.ensures.0 c.in-Some.is _ _ _ D.ensures.0, settled_listed (kind_is A.kind) A.room A.k A.v A.before A.n A.count A.extra A.numbers.now A.verts.now A.groups.now A.points.now A.corners.now A.volumes.now A.ends.now A.lengths.now A.outline.now A.log.now P.0 _ _ D.result D.ensures.1, parted_linked A.k _ _ _ D.result (facets_back B.new.table P.2 B.auto.table c.in-Some.is B.ensures.1) D.ensures.1)
