-- `split::settle::part_straddlers` meets its contract: what each part asks and tells is in proofs/PartLaws.antt. Assumes nothing.
use native.Mathlib.Omega.{arith}
use mathlib.Core.Path.{◌∙◌, sym}
use borrow.Author.Tests.{not-true, not-false}
use Rattle.elements.specs.Table.{kind_is}
use Rattle.links.proofs.Parts.{edges_read}
use Rattle.split.proofs.PartLaws.{part_refused, split_asked, part_done}
use borrow.Author.Rules.{rules}
use mathlib.Core.Path.{ap}
use mathlib.Core.Bool.{not}
use Rattle.split.proofs.settle.part_straddlers.Goals as goal

pub list_straddlers-s-requires : goal.list_straddlers-s-requires
list_straddlers-s-requires c = let P = c.requires in (P.0.straddle, omega (arith, P.0.few_edges, P.1), P.0.ends_in, P.2.triangles, edges_read P.2)

pub log_fits-requires : goal.log_fits-requires
log_fits-requires c = let P = c.requires.0 in omega (arith, c.requires.0.some, c.requires.0.small, c.requires.0.one_extra)

pub shape_of-list-then-not-log_fits : goal.shape_of-list-then-not-log_fits
shape_of-list-then-not-log_fits c = c.list_straddlers-s.auto.list

pub returns-then-not-log_fits : goal.returns-then-not-log_fits
returns-then-not-log_fits c = let A = c.args in let P = c.requires in let D = c.list_straddlers-s in (part_refused (kind_is A.kind) A.room A.k A.v A.before A.n A.count A.extra A.rows A.verts.now A.groups.now A.corners.now A.ends.now A.log.now P.0 _ _ (omega (arith, D.auto.list, P.1)) D.ensures (sym c.log_fits.ensures ∙ not-true _ (ap not c.if-not-log_fits.true)) _ _, tt)

pub note_split-entries-requires : goal.note_split-entries-requires
note_split-entries-requires c = let A = c.args in let P = c.requires in let D = c.list_straddlers-s in split_asked (kind_is A.kind) A.room A.k A.v A.before A.n A.count A.extra A.rows A.verts.now A.groups.now A.corners.now A.ends.now A.log.now P.0 _ _ (omega (arith, D.auto.list, P.1)) D.ensures (sym c.log_fits.ensures ∙ not-false _ (ap not c.if-not-log_fits.false))

pub shape_of-log : goal.shape_of-log
shape_of-log c = c.note_split-entries.auto.log

pub returns : goal.returns
returns c = let A = c.args in let P = c.requires in let D = c.list_straddlers-s in part_done (kind_is A.kind) A.room A.k A.v A.before A.n A.count A.extra A.rows A.verts.now A.groups.now A.corners.now A.ends.now A.log.now P.0 _ _ (omega (arith, D.auto.list, P.1)) D.ensures (sym c.log_fits.ensures ∙ not-false _ (ap not c.if-not-log_fits.false)) _ _ c.note_split-entries.ensures
